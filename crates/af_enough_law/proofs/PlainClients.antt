-- What a client wants and does, if its ops are of a plain kind: whatever is answered, it wants plain things alone, and its calls leave plain events. A kind is told by tests of wants, of ops and of events.
use Rattle.std.proofs.Common.{◌≡◌, ℕ, ◌-◌, ◌==◌, ◌||◌, Bool, true, false, List, [], ◌∷◌, ◌++◌, fold, refl, sym, ap, ◌∙◌, Option, Some, None, if◌then◌else◌, bit_and}
use Rattle.af_enough_law.proofs.Common.{Client, ClientCall, ClientCommand, ClientEvent, IsMade, IsWanted, LegalClientTurn, Mode, Op, Side, Track, Want, after_answer, after_call, after_calls, after_clear, after_send, after_status, after_write, asked_first, at_next_turn, begins, begun, both_first, both_right, both_true, client_call_events, client_events_of, commands_sent, is_last, is_of_commands, list_all, more, none_some, released_by, rest_of, rested, some_is, wanted_of, wants_of, with_call}
use Rattle.af_runs.specs.ClientTurns.{called}
use Rattle.af_base.specs.declared.event.ClientCall.TheVariants as call
use Rattle.af_base.specs.declared.event.ClientEvent.TheVariants as client
use Rattle.af_runs.specs.declared.want.ClientCommand.TheVariants as command
use Rattle.af_runs.specs.declared.want.Want.TheVariants as want
use Rattle.af_enough_law.proofs.ClientWalk.{turn_keeps}

-- a client whose wants and ops are plain
pub record IsPlain (W : Want → Bool) (O : Op → Bool) (c : Client) : Type 0 where
  pub due : list_all W c.due ≡ true
  pub ops : list_all O c.ops ≡ true

-- a track whose client is plain, and whose client's events are
pub record IsPlainTrack (W : Want → Bool) (O : Op → Bool) (E : List ClientEvent → Bool) (t : Track) : Type 0 where
  pub client : IsPlain W O t.client
  pub stream : E t.stream.events ≡ true
  pub commands : E t.commands.events ≡ true

-- A kind: what a plain op wants is plain, and so is what a client wants of its own accord. A call that was made for a plain want leaves plain events, and a meeting leaves one
pub record IsKind (W : Want → Bool) (O : Op → Bool) (E : List ClientEvent → Bool) : Type 0 where
  pub ops : (m : Mode) (o : Op) → O o ≡ true → list_all W (wants_of m o) ≡ true
  pub start : W (want.Send command.Start) ≡ true
  pub write : (count : ℕ) → W (want.Write count) ≡ true
  pub clear : W want.Clear ≡ true
  pub leave : W want.Leave ≡ true
  pub learn : (count : ℕ) → E (client.Learn count ∷ []) ≡ true
  pub append : (xs ys : List ClientEvent) → E xs ≡ true → E ys ≡ true → E (xs ++ ys) ≡ true
  pub call : (t : Track) (w : Want) (answer : ClientCall) (was_shut : Bool) → W w ≡ true → IsWanted t w answer → E (client_call_events was_shut answer) ≡ true

-- ## Wants

module _ (W : Want → Bool) where
  pub only_plain : (b : Bool) (wants : List Want) → list_all W wants ≡ true → list_all W (if b then wants else []) ≡ true
  only_plain true wants h = h
  only_plain false wants h = refl

  first_plain : (due : List Want) (w : Want) → list_all W due ≡ true → asked_first due ≡ Some w → W w ≡ true
  first_plain [] w h e = none_some w e
  first_plain (want.Rest ∷ wants) w h e = none_some w e
  first_plain (v ∷ wants) w h e = ap W (sym (some_is v w e)) ∙ both_first (W v) (list_all W wants) h

  next_plain : (halted : Bool) (due : List Want) (w : Want) → list_all W due ≡ true → (if halted then None else asked_first due) ≡ Some w → W w ≡ true
  next_plain true due w h e = none_some w e
  next_plain false due w h e = first_plain due w h e

  rest_plain : (due : List Want) → list_all W due ≡ true → list_all W (rest_of due) ≡ true
  rest_plain [] h = refl
  rest_plain (w ∷ wants) h = both_right (W w) (list_all W wants) h

  rested_plain : (wants : List Want) → list_all W wants ≡ true → list_all W (rested wants) ≡ true
  rested_plain [] h = refl
  rested_plain (want.Rest ∷ wants) h = both_right (W want.Rest) (list_all W wants) h
  rested_plain (w ∷ wants) h = h

either_plain : (W : Want → Bool) (O : Op → Bool) (b : Bool) (x y : Client) → IsPlain W O x → IsPlain W O y → IsPlain W O (if b then x else y)
either_plain W O true x y h g = h
either_plain W O false x y h g = g

module _ (W : Want → Bool) (O : Op → Bool) (E : List ClientEvent → Bool) (k : IsKind W O E) where
  begins_plain : (c : Client) (wants : List Want) (ops : List Op) → list_all W wants ≡ true → list_all O ops ≡ true → IsPlain W O (begins c wants ops)
  begins_plain c (w ∷ wants) ops d o = record { due = d; ops = o }
  begins_plain c [] [] d o = record { due = refl; ops = refl }
  begins_plain c [] (o ∷ ops) d p = begins_plain c (wants_of c.mode o) ops (k.ops c.mode o (both_first (O o) (list_all O ops) p)) (both_right (O o) (list_all O ops) p)

  begun_plain : (c : Client) → IsPlain W O c → IsPlain W O (begun c)
  begun_plain c h = begins_plain c c.due c.ops h.due h.ops

  -- what is wanted next is plain
  pub wanted_plain : (t : Track) (w : Want) → IsPlain W O t.client → wanted_of t ≡ Some w → W w ≡ true
  wanted_plain t w h e = let b = begun_plain t.client h in next_plain W _ (begun t.client).due w b.due e

-- ## Answers

module _ (W : Want → Bool) (O : Op → Bool) (E : List ClientEvent → Bool) (k : IsKind W O E) (c : Client) (wants : List Want) (h : IsPlain W O c) (w : list_all W wants ≡ true) where
  goes : {c' : Client} → c'.due ≡ wants → c'.ops ≡ c.ops → IsPlain W O c'
  goes d o = record { due = ap (list_all W) d ∙ w; ops = ap (list_all O) o ∙ h.ops }

  keeps : {c' : Client} → c'.due ≡ c.due → c'.ops ≡ c.ops → IsPlain W O c'
  keeps d o = record { due = ap (list_all W) d ∙ h.due; ops = ap (list_all O) o ∙ h.ops }

  send_plain : (sending : ClientCommand) (answer : ClientCall) → IsPlain W O (after_send sending wants c answer)
  send_plain sending (call.Sent front code argument) = either_plain W O (is_last sending) _ _ (goes refl refl) (goes refl refl)
  send_plain sending _ = keeps refl refl

  more_plain : (none : Bool) (left : ℕ) → list_all W (if none then wants else want.Write left ∷ wants) ≡ true
  more_plain true left = w
  more_plain false left = both_true (W (want.Write left)) (list_all W wants) (k.write left) w

  put_plain : (active : Bool) (left : ℕ) → list_all W (if active then want.Clear ∷ more left wants else more left wants) ≡ true
  put_plain true left = both_true (W want.Clear) (list_all W (more left wants)) k.clear (more_plain (left == 0) left)
  put_plain false left = more_plain (left == 0) left

  leaves : IsPlain W O (record c { due = want.Leave ∷ []; ops = [] })
  leaves = record { due = both_true (W want.Leave) true k.leave refl; ops = refl }

  write_plain : (asked : ℕ) (answer : ClientCall) → IsPlain W O (after_write asked wants c answer)
  write_plain asked (call.Put front count) = record { due = put_plain _ (asked - count); ops = h.ops }
  write_plain asked (call.Full front) = keeps refl refl
  write_plain asked _ = leaves

  status_plain : (to_stop : Bool) (n : ℕ) (answer : ClientCall) → IsPlain W O (after_status to_stop n wants c answer)
  status_plain to_stop n (call.Status word) = either_plain W O _ _ _ (keeps refl refl) (either_plain W O _ _ _ (goes refl refl) (keeps refl refl))
  status_plain to_stop n _ = h

  owed_plain : (calm : Bool) → list_all W (if calm then wants else want.Send command.Start ∷ wants) ≡ true
  owed_plain true = w
  owed_plain false = both_true (W (want.Send command.Start)) (list_all W wants) k.start w

  clear_plain : (answer : ClientCall) → IsPlain W O (after_clear wants c answer)
  clear_plain (call.Cleared flags) = record { due = owed_plain (bit_and flags 8 == 0); ops = h.ops }
  clear_plain _ = h

  answer_plain : (n : ℕ) (wanted : Want) (answer : ClientCall) → IsPlain W O (after_answer n wanted wants c answer)
  answer_plain n (want.Send sending) answer = send_plain sending answer
  answer_plain n want.Settled answer = status_plain false n answer
  answer_plain n want.Drained answer = status_plain true n answer
  answer_plain n (want.Write asked) answer = write_plain asked answer
  answer_plain n want.Clear answer = clear_plain answer
  answer_plain n want.Leave answer = keeps refl refl
  answer_plain n _ answer = goes refl refl

-- ## A turn

unfoldable pub answered_by : (t : Track) (answer : ClientCall) (o : Option Want) → Client
answered_by t answer o = elim o as (λ o. Client) [ None ↦ t.client | Some wanted ↦ after_answer (commands_sent (with_call t answer)) wanted (rest_of (begun t.client).due) (begun t.client) answer ]

module _ (W : Want → Bool) (O : Op → Bool) (E : List ClientEvent → Bool) (k : IsKind W O E) where
  answered_plain : (t : Track) (answer : ClientCall) (o : Option Want) → IsPlain W O t.client → IsPlain W O (answered_by t answer o)
  unfolding answered_by
  answered_plain t answer None h = h
  answered_plain t answer (Some wanted) h =
      let b = begun_plain W O E k t.client h in
      answer_plain W O E k (begun t.client) (rest_of (begun t.client).due) b (rest_plain W (begun t.client).due b.due) (commands_sent (with_call t answer)) wanted answer

  call_sides : (b : Bool) (t : Track) (s c : Side) (es fs : List ClientEvent) → s.events ≡ t.stream.events ++ es → c.events ≡ t.commands.events ++ fs → E es ≡ true → E fs ≡ true → IsPlainTrack W O E t
      → let u = (if b then record t { commands = c } else record t { stream = s }) in (E u.stream.events ≡ true) × (E u.commands.events ≡ true)
  call_sides true t s c es fs is js a d h = (h.stream, ap E js ∙ k.append t.commands.events fs h.commands d)
  call_sides false t s c es fs is js a d h = (ap E is ∙ k.append t.stream.events es h.stream a, h.commands)

  -- a call leaves a track plain
  pub call_plain : (t : Track) (w : Want) (answer : ClientCall) → IsPlainTrack W O E t → wanted_of t ≡ Some w → IsMade t w answer → IsPlainTrack W O E (after_call t answer)
  unfolding answered_by
  call_plain t w answer h wanted made =
      let plain = wanted_plain W O E k t w h.client wanted in
      let sides = call_sides (is_of_commands answer) t (called answer (released_by t answer) t.stream) (called answer (released_by t answer) t.commands)
      (client_events_of t.stream.shape.frames t.stream.shape.base t.stream.events answer) (client_events_of t.commands.shape.frames t.commands.shape.base t.commands.events answer) refl refl
      (k.call t w answer _ plain made.0) (k.call t w answer _ plain made.0) h in
      record { client = answered_plain t answer (wanted_of t) h.client; stream = sides.0; commands = sides.1 }

  next_turn_plain : (cut : Bool) (c : Client) → IsPlain W O c → IsPlain W O (at_next_turn cut c)
  next_turn_plain cut c h = let b = begun_plain W O E k c h in
      either_plain W O (c.waiting || c.ended || cut) (record c { waiting = false }) (record (begun c) { due = rested (begun c).due }) (record { due = h.due; ops = h.ops }) (record { due = rested_plain W (begun c).due b.due; ops = b.ops })

  -- a legal turn leaves a track plain
  pub turn_plain : (t : Track) (calls : List ClientCall) → IsPlainTrack W O E t → LegalClientTurn t calls → IsPlainTrack W O E (after_calls t calls)
  turn_plain t calls h legal =
      let last = turn_keeps (IsPlainTrack W O E) call_plain t calls legal h in
      record { client = next_turn_plain _ (fold after_call t calls).client last.client; stream = last.stream; commands = last.commands }
