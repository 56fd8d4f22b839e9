-- A client sends its third command only after it has seen a status that says that two are settled, whatever it is answered.
use Rattle.std.proofs.Common.{◌≡◌, ◌⊎◌, inl, inr, ℕ, zero, suc, ◌*◌, ◌/◌, ◌≤◌, ◌==◌, ◌&&◌, ◌||◌, nat_le, not, if◌then◌else◌, Bool, true, false, Some, None, List, [], ◌∷◌, ◌++◌, length, take, fold, refl, sym, ap, ◌∙◌, subst, arith, append_assoc, append-nil, length-append, eqb-true, Option}
use Rattle.af_enough_law.proofs.Common.{Client, ClientCall, ClientEvent, IsMade, IsWanted, LegalClientTurn, Mode, Op, Side, Track, Want, after_answer, after_call, after_calls, at_next_turn, begins, begun, both_first, both_first as both_left, commands_sent, is_of_commands, next_want, no, released_by, rest_of, rested, settled_in, some_same, state_in, wanted_of, wants_of, with_call, both_right}
use Rattle.af_base.specs.declared.event.ClientCall.TheVariants as call
use Rattle.af_base.specs.declared.event.ClientEvent.TheVariants as client
use Rattle.af_enough_law.proofs.Basics.{put-append}
use Rattle.af_script.specs.declared.op.Op.TheVariants as op
use Rattle.af_runs.specs.ClientTurns.{called}
use Rattle.af_runs.specs.declared.want.ClientCommand.TheVariants as command
use Rattle.af_runs.specs.declared.want.Mode.TheVariants as mode
use Rattle.af_runs.specs.declared.want.Want.TheVariants as want
use Rattle.af_enough_law.specs.Seen.{frames_put}
use Rattle.af_enough_law.proofs.ClientWalk.{turn_keeps}
use Rattle.af_enough_law.proofs.FairTurns.{commands_grow}
use Rattle.af_enough_law.proofs.Turning.{none_some}

-- none of these commands is a STOP
abbrev pub no_stop : List ℕ → Bool
no_stop (code ∷ argument ∷ words) = not (code == 4) && no_stop words
no_stop _ = true

-- a client that waits or has ended, or not
abbrev pub held : Bool → Bool → List Want → List Op → Mode → Client
held waits over due ops m = record { due = due; ops = ops; mode = m; waiting = waits; ended = over }

-- a client that hasn't seen its START settled, by how many commands it has sent
pub data Early : Client → ℕ → Type 0 where
  opening : (w d : Bool) (ops : List Op) → Early (held w d (want.Send command.Open ∷ []) (op.Start ∷ ops) mode.Idle) 0
  starting : (w d : Bool) (ops : List Op) → Early (held w d (want.Send command.Start ∷ want.Settled ∷ []) ops mode.Idle) 1
  settling : (w d : Bool) (ops : List Op) → Early (held w d (want.Settled ∷ []) ops mode.Active) 2

-- what a client that hasn't seen its START settled has sent
pub record IsEarly (t : Track) : Type 0 where
  pub sent : ℕ
  pub client : Early (begun t.client) sent
  pub put : frames_put t.commands.events ≡ 2 * sent
  pub long : length t.commands.released ≡ 2 * sent
  pub stopless : no_stop t.commands.released ≡ true

-- a status that says so was seen, by a client that had sent two commands at most
pub record SawSettled (events : List ClientEvent) : Type 0 where
  pub before : List ClientEvent
  pub word : ℕ
  pub behind : List ClientEvent
  pub whole : events ≡ before ++ client.SawStatus word ∷ behind
  pub few : frames_put before ≤ 4
  pub settled : 2 ≤ settled_in word

-- the first two commands
pub record IsLate (t : Track) : Type 0 where
  pub saw : SawSettled t.commands.events
  pub long : 4 ≤ length t.commands.released
  pub stopless : no_stop (take 4 t.commands.released) ≡ true

pub data Comes (t : Track) : Type 0 where
  early : IsEarly t → Comes t
  late : IsLate t → Comes t

-- ## A call of a client that has seen it

take_more : (n : ℕ) (xs ys : List ℕ) → n ≤ length xs → take n (xs ++ ys) ≡ take n xs
take_more zero xs ys low = refl
take_more (suc n) [] ys low = absurd (let z : ⊥ = omega (arith, low) in z)
take_more (suc n) (x ∷ xs) ys low = ap (λ l. x ∷ l) (take_more n xs ys (omega (arith, low)))

released_any : (b : Bool) (t : Track) (s c : Side) (ws : List ℕ) → c.released ≡ t.commands.released ++ ws → (more : List ℕ) × ((if b then record t { commands = c } else record t { stream = s }).commands.released ≡ t.commands.released ++ more)
released_any true t s c ws is = (ws, is)
released_any false t s c ws is = ([], sym (append-nil t.commands.released))

-- what a call makes of the words sent
pub released_grow : (t : Track) (answer : ClientCall) → (more : List ℕ) × ((after_call t answer).commands.released ≡ t.commands.released ++ more)
released_grow t answer = released_any (is_of_commands answer) t (called answer (released_by t answer) t.stream) (called answer (released_by t answer) t.commands) (released_by t answer) refl

pub saw_on : (xs ys : List ClientEvent) → SawSettled xs → SawSettled (xs ++ ys)
saw_on xs ys s = record { before = s.before; word = s.word; behind = s.behind ++ ys; whole = ap (λ l. l ++ ys) s.whole ∙ append_assoc s.before (client.SawStatus s.word ∷ s.behind) ys; few = s.few; settled = s.settled }

late_on : (t u : Track) (es : List ClientEvent) (ws : List ℕ) → u.commands.events ≡ t.commands.events ++ es → u.commands.released ≡ t.commands.released ++ ws → IsLate t → IsLate u
late_on t u es ws events words l = record {
  saw = subst SawSettled (sym events) (saw_on t.commands.events es l.saw);
  long = (let a = ap length words in let b = length-append t.commands.released ws in let d = l.long in omega (arith, a, b, d));
  stopless = ap (λ xs. no_stop (take 4 xs)) words ∙ ap no_stop (take_more 4 t.commands.released ws l.long) ∙ l.stopless;
}

late_call : (t : Track) (answer : ClientCall) → IsLate t → IsLate (after_call t answer)
late_call t answer l = let e = commands_grow t (answer ∷ []) in let w = released_grow t answer in late_on t (after_call t answer) e.0 w.0 e.1 w.1 l

-- ## A call of one that hasn't

answered_by : (t : Track) (answer : ClientCall) (o : Option Want) → Client
answered_by t answer o = elim o as (λ o. Client) [ None ↦ t.client | Some wanted ↦ after_answer (commands_sent (with_call t answer)) wanted (rest_of (begun t.client).due) (begun t.client) answer ]

pub client_is : (t : Track) (w : Want) (answer : ClientCall) → wanted_of t ≡ Some w → (after_call t answer).client ≡ after_answer (commands_sent (with_call t answer)) w (rest_of (begun t.client).due) (begun t.client) answer
unfolding answered_by
client_is t w answer wanted = ap (answered_by t answer) wanted

-- a client that waits or has ended wants nothing
pub first_want : (b : Bool) (o : Option Want) (w : Want) → (if b then None else o) ≡ Some w → o ≡ Some w
first_want true o w e = none_some None w refl e
first_want false o w e = e

stop_append : (xs : List ℕ) (code argument : ℕ) (k : ℕ) → length xs ≡ 2 * k → no_stop xs ≡ true → (code == 4) ≡ false → no_stop (xs ++ code ∷ argument ∷ []) ≡ true
stop_append [] code argument k long none other = ap (λ (b : Bool). not b && true) other
stop_append (x ∷ []) code argument k long none other = absurd (let z : ⊥ = omega (arith, long) in z)
stop_append (x ∷ y ∷ xs) code argument zero long none other = absurd (let z : ⊥ = omega (arith, long) in z)
stop_append (x ∷ y ∷ xs) code argument (suc k) long none other =
    let first = both_left (not (x == 4)) (no_stop xs) none in
    ap (λ (b : Bool). b && no_stop (xs ++ code ∷ argument ∷ [])) first ∙ stop_append xs code argument k (omega (arith, long)) (both_right (not (x == 4)) (no_stop xs) none) other

code_other : (code n : ℕ) → (code == n) ≡ true → (n == 4) ≡ false → (code == 4) ≡ false
code_other code n e other = ap (λ (c : ℕ). c == 4) (eqb-true code n e) ∙ other

early_sent : (t : Track) (c : Client) (sent : ℕ) (front code argument : ℕ) → Early (begun c) (suc sent) → frames_put t.commands.events ≡ 2 * sent → length t.commands.released ≡ 2 * sent → no_stop t.commands.released ≡ true → (code == 4) ≡ false → (after_call t (call.Sent front code argument)).client ≡ c → Comes (after_call t (call.Sent front code argument))
early_sent t c sent front code argument e put long none other is = early (record {
  sent = suc sent;
  client = subst (λ (x : Client). Early (begun x) (suc sent)) (sym is) e;
  put = (let a = put-append t.commands.events (client.SawFlags 0 ∷ client.SawFront front ∷ client.Release 2 ∷ []) in omega (arith, a, put));
  long = (let a = length-append t.commands.released (code ∷ argument ∷ []) in omega (arith, a, long));
  stopless = stop_append t.commands.released code argument sent long none other;
})

module _ (t : Track) (sent : ℕ) (put : frames_put t.commands.events ≡ 2 * sent) (long : length t.commands.released ≡ 2 * sent) (none : no_stop t.commands.released ≡ true) where
  same_words : (xs : List ClientEvent) (u : Track) (c : Client) → u.client ≡ c → Early (begun c) sent → u.commands.events ≡ t.commands.events ++ xs → frames_put xs ≡ 0 → u.commands.released ≡ t.commands.released ++ [] → Comes u
  same_words xs u c is e events nothing words = early (record {
    sent = sent;
    client = subst (λ (x : Client). Early (begun x) sent) (sym is) e;
    put = (let a = ap frames_put events in let b = put-append t.commands.events xs in omega (arith, a, b, nothing, put));
    long = ap length (words ∙ append-nil t.commands.released) ∙ long;
    stopless = ap no_stop (words ∙ append-nil t.commands.released) ∙ none;
  })

none_if : (b : Bool) (front : ℕ) → frames_put (if b then [] else client.SawFlags 0 ∷ client.SawFront front ∷ []) ≡ 0
none_if true front = refl
none_if false front = refl

early_call : (t : Track) (w : Want) (answer : ClientCall) (c : Client) (sent : ℕ) → Early c sent → begun t.client ≡ c → wanted_of t ≡ Some w → IsMade t w answer → frames_put t.commands.events ≡ 2 * sent → length t.commands.released ≡ 2 * sent → no_stop t.commands.released ≡ true → Comes (after_call t answer)
early_call t w answer _ _ (opening x d ops) is wanted made put long none = by answer (subst (λ (w : Want). IsWanted t w answer) same made.0) (client_is t w answer wanted ∙ ap (λ (w : Want). after_answer (commands_sent (with_call t answer)) w (rest_of (begun t.client).due) (begun t.client) answer) same ∙ ap (λ (c : Client). after_answer (commands_sent (with_call t answer)) (want.Send command.Open) (rest_of c.due) c answer) is)
  where
    same : w ≡ want.Send command.Open
    same = some_same w (want.Send command.Open) (sym (first_want (x || d) (Some (want.Send command.Open)) w (ap (λ (c : Client). next_want c) (sym is) ∙ wanted)))

    by : (answer : ClientCall) → IsWanted t (want.Send command.Open) answer → (after_call t answer).client ≡ after_answer (commands_sent (with_call t answer)) (want.Send command.Open) [] (held x d (want.Send command.Open ∷ []) (op.Start ∷ ops) mode.Idle) answer → Comes (after_call t answer)
    by (call.Sent front code argument) h e = early_sent t _ 0 front code argument (starting x d ops) put long none (code_other code 1 (both_first (code == 1) _ h) refl) e
    by (call.SendFull front) h e = same_words t 0 put long none (client.SawFlags 0 ∷ client.SawFront front ∷ []) _ _ e (opening true d ops) refl refl refl
    by (call.SendDead flags) h e = same_words t 0 put long none (client.SawFlags flags ∷ []) _ _ e (opening x true ops) refl refl refl
    by (call.SendCorrupt front rear) h e = same_words t 0 put long none _ _ _ e (opening x true ops) refl (none_if _ front) refl
    by _ h e = no h
early_call t w answer _ _ (starting x d ops) is wanted made put long none = by answer (subst (λ (w : Want). IsWanted t w answer) same made.0) (client_is t w answer wanted ∙ ap (λ (w : Want). after_answer (commands_sent (with_call t answer)) w (rest_of (begun t.client).due) (begun t.client) answer) same ∙ ap (λ (c : Client). after_answer (commands_sent (with_call t answer)) (want.Send command.Start) (rest_of c.due) c answer) is)
  where
    same : w ≡ want.Send command.Start
    same = some_same w (want.Send command.Start) (sym (first_want (x || d) (Some (want.Send command.Start)) w (ap (λ (c : Client). next_want c) (sym is) ∙ wanted)))

    by : (answer : ClientCall) → IsWanted t (want.Send command.Start) answer → (after_call t answer).client ≡ after_answer (commands_sent (with_call t answer)) (want.Send command.Start) (want.Settled ∷ []) (held x d (want.Send command.Start ∷ want.Settled ∷ []) ops mode.Idle) answer → Comes (after_call t answer)
    by (call.Sent front code argument) h e = early_sent t _ 1 front code argument (settling x d ops) put long none (code_other code 2 (both_first (code == 2) _ h) refl) e
    by (call.SendFull front) h e = same_words t 1 put long none (client.SawFlags 0 ∷ client.SawFront front ∷ []) _ _ e (starting true d ops) refl refl refl
    by (call.SendDead flags) h e = same_words t 1 put long none (client.SawFlags flags ∷ []) _ _ e (starting x true ops) refl refl refl
    by (call.SendCorrupt front rear) h e = same_words t 1 put long none _ _ _ e (starting x true ops) refl (none_if _ front) refl
    by _ h e = no h
early_call t w answer _ _ (settling x d ops) is wanted made put long none = by answer (subst (λ (w : Want). IsWanted t w answer) same made.0) (client_is t w answer wanted ∙ ap (λ (w : Want). after_answer (commands_sent (with_call t answer)) w (rest_of (begun t.client).due) (begun t.client) answer) same ∙ ap (λ (c : Client). after_answer (commands_sent (with_call t answer)) want.Settled (rest_of c.due) c answer) is)
  where
    same : w ≡ want.Settled
    same = some_same w want.Settled (sym (first_want (x || d) (Some want.Settled) w (ap (λ (c : Client). next_want c) (sym is) ∙ wanted)))

    -- what the status makes of the client
    told : (word n : ℕ) (over enough : Bool) → (after_call t (call.Status word)).client ≡ (if over then held x true (want.Settled ∷ []) ops mode.Active else if enough && true then held x d [] ops mode.Active else held true d (want.Settled ∷ []) ops mode.Active) → (enough ≡ true → 2 ≤ settled_in word) → Comes (after_call t (call.Status word))
    told word n true enough e f = same_words t 2 put long none (client.SawStatus word ∷ []) _ _ e (settling x true ops) refl refl refl
    told word n false false e f = same_words t 2 put long none (client.SawStatus word ∷ []) _ _ e (settling true d ops) refl refl refl
    told word n false true e f = late (record {
      saw = record { before = t.commands.events; word = word; behind = []; whole = refl; few = omega (arith, put); settled = f refl };
      long = (let a = length-append t.commands.released [] in omega (arith, a, long));
      stopless = ap (λ xs. no_stop (take 4 xs)) (append-nil t.commands.released) ∙ ap no_stop (take_all t.commands.released long) ∙ none;
    })
      where
        take_all : (xs : List ℕ) → length xs ≡ 4 → take 4 xs ≡ xs
        take_all (a ∷ b ∷ c ∷ d ∷ []) l = refl
        take_all [] l = absurd (let z : ⊥ = omega (arith, l) in z)
        take_all (a ∷ []) l = absurd (let z : ⊥ = omega (arith, l) in z)
        take_all (a ∷ b ∷ []) l = absurd (let z : ⊥ = omega (arith, l) in z)
        take_all (a ∷ b ∷ c ∷ []) l = absurd (let z : ⊥ = omega (arith, l) in z)
        take_all (a ∷ b ∷ c ∷ d ∷ e ∷ xs) l = absurd (let z : ⊥ = omega (arith, l) in z)

    two : (word : ℕ) → commands_sent (with_call t (call.Status word)) ≡ 2
    two word = ap (λ (xs : List ℕ). length xs / 2) (append-nil t.commands.released) ∙ ap (λ (n : ℕ). n / 2) long

    by : (answer : ClientCall) → IsWanted t want.Settled answer → (after_call t answer).client ≡ after_answer (commands_sent (with_call t answer)) want.Settled [] (held x d (want.Settled ∷ []) ops mode.Active) answer → Comes (after_call t answer)
    by (call.Status word) h e = told word (commands_sent (with_call t (call.Status word))) (state_in word == 15) (nat_le (commands_sent (with_call t (call.Status word))) (settled_in word)) e
        (λ enough. let a : commands_sent (with_call t (call.Status word)) ≤ settled_in word = search (arith, enough) in let b = two word in omega (arith, a, b))
    by (call.Sent front code argument) h e = no h
    by (call.SendFull front) h e = no h
    by (call.SendDead flags) h e = no h
    by (call.SendCorrupt front rear) h e = no h
    by (call.Put front count) h e = no h
    by (call.Full front) h e = no h
    by (call.Dead flags) h e = no h
    by (call.Corrupt front rear) h e = no h
    by (call.Cleared flags) h e = no h
    by (call.Flush count) h e = no h
    by (call.Gain word) h e = no h
    by (call.Poke in_command word value) h e = no h

call_comes : (t : Track) (w : Want) (answer : ClientCall) → Comes t → wanted_of t ≡ Some w → IsMade t w answer → Comes (after_call t answer)
call_comes t w answer (late l) wanted made = late (late_call t answer l)
call_comes t w answer (early e) wanted made = early_call t w answer (begun t.client) e.sent e.client refl wanted made e.put e.long e.stopless

-- ## A turn

-- what a client has begun it has begun whether it waits or has ended or not
pub begun_held : (c : Client) (w d : Bool) (wants : List Want) (ops : List Op) → begins (record c { waiting = w; ended = d }) wants ops ≡ record (begins c wants ops) { waiting = w; ended = d }
begun_held c w d (x ∷ wants) ops = refl
begun_held c w d [] [] = refl
begun_held c w d [] (o ∷ ops) = begun_held c w d (wants_of c.mode o) ops

held_early : (c : Client) (sent : ℕ) (w d : Bool) → Early c sent → Early (record c { waiting = w; ended = d }) sent
held_early _ _ w d (opening x y ops) = opening w d ops
held_early _ _ w d (starting x y ops) = starting w d ops
held_early _ _ w d (settling x y ops) = settling w d ops

pub early_held : (c : Client) (sent : ℕ) (w d : Bool) → Early (begun c) sent → Early (begun (record c { waiting = w; ended = d })) sent
early_held c sent w d e = subst (λ (x : Client). Early x sent) (sym (begun_held c w d c.due c.ops)) (held_early (begun c) sent w d e)

early_rested : (c : Client) (sent : ℕ) → Early c sent → Early (begun (record c { due = rested c.due })) sent
early_rested _ _ (opening x y ops) = opening x y ops
early_rested _ _ (starting x y ops) = starting x y ops
early_rested _ _ (settling x y ops) = settling x y ops

either_early : (b : Bool) (x y : Client) (sent : ℕ) → Early (begun x) sent → Early (begun y) sent → Early (begun (if b then x else y)) sent
either_early true x y sent e f = e
either_early false x y sent e f = f

next_comes : (t : Track) (cut : Bool) → Comes t → Comes (record t { client = at_next_turn cut t.client })
next_comes t cut (late l) = late (record { saw = l.saw; long = l.long; stopless = l.stopless })
next_comes t cut (early e) = early (record {
  sent = e.sent;
  client = either_early (t.client.waiting || t.client.ended || cut) (record t.client { waiting = false }) (record (begun t.client) { due = rested (begun t.client).due }) e.sent (early_held t.client e.sent false t.client.ended e.client) (early_rested (begun t.client) e.sent e.client);
  put = e.put;
  long = e.long;
  stopless = e.stopless;
})

-- a legal turn of a client leaves it early
pub turn_comes : (t : Track) (calls : List ClientCall) → LegalClientTurn t calls → Comes t → Comes (after_calls t calls)
turn_comes t calls legal h = next_comes (fold after_call t calls) (length calls == 64) (turn_keeps Comes call_comes t calls legal h)

-- what a client learns, and its end, leave it early too
pub met_comes : (t u : Track) (n : ℕ) → u.commands.events ≡ t.commands.events ++ client.Learn n ∷ [] → u.commands.released ≡ t.commands.released → (u.client ≡ t.client) ⊎ (u.client ≡ record t.client { ended = true }) → Comes t → Comes u
met_comes t u n events words same (late l) = late (late_on t u (client.Learn n ∷ []) [] events (words ∙ sym (append-nil t.commands.released)) l)
met_comes t u n events words same (early e) = early (record {
  sent = e.sent;
  client = by same;
  put = (let a = ap frames_put events in let b = put-append t.commands.events (client.Learn n ∷ []) in let p = e.put in omega (arith, a, b, p));
  long = ap length words ∙ e.long;
  stopless = ap no_stop words ∙ e.stopless;
})
  where
    by : (u.client ≡ t.client) ⊎ (u.client ≡ record t.client { ended = true }) → Early (begun u.client) e.sent
    by (inl is) = subst (λ (c : Client). Early (begun c) e.sent) (sym is) e.client
    by (inr is) = subst (λ (c : Client). Early (begun c) e.sent) (sym is) (early_held t.client e.sent t.client.waiting true e.client)
