-- A client whose ops play through goes on to, by each fair answer.
use Rattle.std.proofs.Common.{◌≡◌, ◌⊎◌, inl, inr, ℕ, zero, suc, ◌+◌, ◌-◌, ◌≤◌, ◌==◌, Bool, true, false, List, [], ◌∷◌, ◌++◌, map, refl, sym, ap, ◌∙◌, subst, arith, true≢false, if◌then◌else◌}
use Rattle.af_enough_law.proofs.Common.{AnswersOn, Client, ClientCall, IsMade, Mode, Op, Track, Want, after_answer, begun, both_first, both_right, equal_is, is_clear, is_send, is_status, is_write, more, no, side_of, state_in}
use Rattle.af_base.specs.declared.event.ClientCall.TheVariants as call
use Rattle.af_script.specs.declared.op.Op.TheVariants as op
use Rattle.af_runs.specs.declared.want.ClientCommand.TheVariants as command
use Rattle.af_runs.specs.declared.want.Mode.TheVariants as mode
use Rattle.af_runs.specs.declared.want.Want.TheVariants as want
use Rattle.af_enough_law.proofs.Playing.{IsWay, Doing, opening, starting, settling, setting, writing, clearing, clearing_more, stopping, draining, removing, due_ops, due_frames, way_ops, way_frames, IsFair}

-- ## Which answers come

-- a send that is answered fairly was sent
pub sent_is : (code argument : ℕ) (answer : ClientCall) → is_send code argument answer ≡ true → IsFair answer → (front : ℕ) × (sent_code : ℕ) × (sent_argument : ℕ) × (answer ≡ call.Sent front sent_code sent_argument) × (sent_code ≡ code) × (sent_argument ≡ argument)
sent_is code argument (call.Sent front sent_code sent_argument) h fair = (front, sent_code, sent_argument, refl, equal_is sent_code code (both_first (sent_code == code) (sent_argument == argument) h), equal_is sent_argument argument (both_right (sent_code == code) (sent_argument == argument) h))
sent_is code argument (call.SendFull front) h fair = absurd fair
sent_is code argument (call.SendDead flags) h fair = absurd fair
sent_is code argument (call.SendCorrupt front rear) h fair = absurd fair
sent_is code argument _ h fair = no h

pub status_is : (answer : ClientCall) → is_status answer ≡ true → (word : ℕ) × (answer ≡ call.Status word)
status_is (call.Status word) h = (word, refl)
status_is _ h = no h

pub write_is : (answer : ClientCall) → is_write answer ≡ true → IsFair answer → ((front : ℕ) × (count : ℕ) × (answer ≡ call.Put front count)) ⊎ ((front : ℕ) × (answer ≡ call.Full front))
write_is (call.Put front count) h fair = inl (front, count, refl)
write_is (call.Full front) h fair = inr (front, refl)
write_is (call.Dead flags) h fair = absurd fair
write_is (call.Corrupt front rear) h fair = absurd fair
write_is _ h fair = no h

pub clear_is : (answer : ClientCall) → is_clear answer ≡ true → (flags : ℕ) × (answer ≡ call.Cleared flags)
clear_is (call.Cleared flags) h = (flags, refl)
clear_is _ h = no h

-- ## The next op

-- a client that goes on with this
abbrev pub at : List Want → List Op → Mode → Client
at due ops m = record { due = due; ops = ops; mode = m; waiting = false; ended = false }

abbrev pub waiting_at : List Want → List Op → Mode → Client
waiting_at due ops m = record { due = due; ops = ops; mode = m; waiting = true; ended = false }

-- how many ops are left, and how many frames of their writes
abbrev pub ops_count : List Want → List Op → ℕ
ops_count due ops = due_ops due + way_ops ops

abbrev pub frames_count : List Want → List Op → ℕ
frames_count due ops = due_frames due + way_frames ops

-- the codes of the commands that were sent before
abbrev pub codes_sent : List Want → Mode → List ℕ
codes_sent (want.Send command.Open ∷ wants) m = []
codes_sent (want.Send command.Start ∷ wants) m = 1 ∷ []
codes_sent _ mode.Stopped = 1 ∷ 2 ∷ 4 ∷ []
codes_sent _ m = 1 ∷ 2 ∷ []

-- an active client without wants begins the next op, and as much is left as before
pub record Begins (ops : List Op) : Type 0 where
  pub due : List Want
  pub rest : List Op
  pub is : begun (at [] ops mode.Active) ≡ at due rest mode.Active
  pub doing : Doing due rest mode.Active
  pub ops_same : ops_count due rest ≡ way_ops ops
  pub frames_same : frames_count due rest ≡ way_frames ops
  -- a gain, a write or the stop is in work
  pub fresh : due_ops due ≡ 1
  pub codes : codes_sent due mode.Active ≡ 1 ∷ 2 ∷ []

unfoldable pub next_op : (gains : ℕ) (ops : List Op) → IsWay gains ops → Begins ops
next_op gains (op.Gain left right ∷ ops) way = record { due = want.Gain left right ∷ []; rest = ops; is = refl; doing = setting left right (gains + 1) ops way.1; ops_same = refl; frames_same = refl; fresh = refl; codes = refl }
next_op gains (op.Write count ∷ ops) way = record { due = want.Write count ∷ []; rest = ops; is = refl; doing = writing count ops way.0 way.1; ops_same = refl; frames_same = refl; fresh = refl; codes = refl }
next_op gains (op.Stop ∷ op.Drain ∷ op.Remove ∷ []) way = record { due = want.Send command.Stop ∷ []; rest = op.Drain ∷ op.Remove ∷ []; is = refl; doing = stopping; ops_same = refl; frames_same = refl; fresh = refl; codes = refl }
next_op gains _ way = absurd way

-- ## One call

-- the frames that a call releases on the stream block
abbrev pub put_of : ClientCall → ℕ
put_of (call.Put front count) = count
put_of _ = 0

-- the command that it sends, with its argument
abbrev pub sent_of : ClientCall → List (ℕ × ℕ)
sent_of (call.Sent front code argument) = (code, argument) ∷ []
sent_of _ = []

-- the codes of all four commands
abbrev pub all_codes : List ℕ
all_codes = 1 ∷ 2 ∷ 4 ∷ 6 ∷ []

abbrev pub codes_of : List (ℕ × ℕ) → List ℕ
codes_of sent = map (λ (c : ℕ × ℕ). c.0) sent

-- What a client does after a call that released so many frames and sent this: it goes on, with no more to do than before, it waits as it was, or it has ended once all was sent
pub data After (due : List Want) (ops : List Op) (m : Mode) (put : ℕ) (sent : List (ℕ × ℕ)) (c : Client) : Type 0 where
  goes : (due' : List Want) (ops' : List Op) (m' : Mode) → begun c ≡ at due' ops' m' → Doing due' ops' m' → ops_count due' ops' ≤ ops_count due ops → frames_count due' ops' + put ≡ frames_count due ops
      → codes_sent due' m' ≡ codes_sent due m ++ codes_of sent → After due ops m put sent c
  waits : c ≡ waiting_at due ops m → put ≡ 0 → sent ≡ [] → After due ops m put sent c
  over : c.ended ≡ true → codes_sent due m ++ codes_of sent ≡ all_codes → After due ops m put sent c

-- the op after one that is done
next_after : (due : List Want) (ops : List Op) (m : Mode) (gains : ℕ) → IsWay gains ops → due_frames due ≡ 0 → codes_sent due m ≡ 1 ∷ 2 ∷ [] → After due ops m 0 [] (at [] ops mode.Active)
next_after due ops m gains way none codes = let b = next_op gains ops way in
    goes b.due b.rest mode.Active b.is b.doing (let same = b.ops_same in omega arith) (let same = b.frames_same in omega arith)
    (b.codes ∙ sym (ap (λ l. l ++ []) codes))

status_after : (due : List Want) (ops : List Op) (m : Mode) (shut there : Bool) (c : Client) → shut ≡ false → After due ops m 0 [] c
    → After due ops m 0 [] (if shut then record (at due ops m) { ended = true } else if there then c else waiting_at due ops m)
status_after due ops m true there c fair next = absurd (true≢false fair)
status_after due ops m false true c fair next = next
status_after due ops m false false c fair next = waits refl refl refl

clear_after : (due : List Want) (ops : List Op) (m : Mode) (calm : Bool) (wants owed : List Want) → calm ≡ true → After due ops m 0 [] (at wants ops m) → After due ops m 0 [] (at (if calm then wants else owed) ops m)
clear_after due ops m true wants owed fair next = next
clear_after due ops m false wants owed fair next = absurd (true≢false (sym fair))

put_after : (asked count left : ℕ) (ops : List Op) → IsWay 0 ops → left + count ≡ asked → After (want.Write asked ∷ []) ops mode.Active count [] (at (want.Clear ∷ more left []) ops mode.Active)
put_after asked count zero ops way sum = goes (want.Clear ∷ []) ops mode.Active refl (clearing ops way) (omega arith) (omega arith) refl
put_after asked count (suc k) ops way sum =
    let some : (suc k == 0) ≡ false = search arith in
    goes (want.Clear ∷ want.Write (suc k) ∷ []) ops mode.Active (ap (λ (b : Bool). at (want.Clear ∷ (if b then [] else want.Write (suc k) ∷ [])) ops mode.Active) some)
    (clearing_more (suc k) ops (omega arith) way) (omega arith) (omega arith) refl

-- a write puts no more than was asked for
pub put_least : (t : Track) (asked front count : ℕ) → AnswersOn t.stream asked (call.Put front count) → count ≤ asked
put_least t asked front count h = let is = h.2 in omega arith

-- what one call makes of the client
abbrev Makes : (n : ℕ) (w : Want) (wants : List Want) (ops : List Op) (m : Mode) (answer : ClientCall) → Type 0
Makes n w wants ops m a = After (w ∷ wants) ops m (put_of a) (sent_of a) (after_answer n w wants (at (w ∷ wants) ops m) a)

pub step : (n : ℕ) (t : Track) (w : Want) (wants : List Want) (ops : List Op) (m : Mode) (answer : ClientCall) → Doing (w ∷ wants) ops m → IsMade t w answer → IsFair answer
    → After (w ∷ wants) ops m (put_of answer) (sent_of answer) (after_answer n w wants (at (w ∷ wants) ops m) answer)
step n t _ _ _ _ answer (opening ops way) made fair = let s = sent_is _ _ answer made.0 fair in
    subst (Makes n (want.Send command.Open) [] (op.Start ∷ ops) mode.Idle) (sym s.3)
    (goes (want.Send command.Start ∷ want.Settled ∷ []) ops mode.Idle refl (starting ops way) (omega arith) (omega arith) (ap (λ c. c ∷ []) (sym s.4)))
step n t _ _ _ _ answer (starting ops way) made fair = let s = sent_is _ _ answer made.0 fair in
    subst (Makes n (want.Send command.Start) (want.Settled ∷ []) ops mode.Idle) (sym s.3)
    (goes (want.Settled ∷ []) ops mode.Active refl (settling ops way) (omega arith) (omega arith) (ap (λ c. 1 ∷ c ∷ []) (sym s.4)))
step n t _ _ _ _ answer (settling ops way) made fair = let s = status_is answer made.0 in
    subst (λ (a : ClientCall). IsFair a → Makes n want.Settled [] ops mode.Active a)
    (sym s.1) (λ f. status_after (want.Settled ∷ []) ops mode.Active (state_in s.0 == 15) _ (at [] ops mode.Active) f (next_after (want.Settled ∷ []) ops mode.Active 0 way refl refl)) fair
step n t _ _ _ _ answer (setting left right gains ops way) made fair =
    subst (λ (a : ClientCall). After (want.Gain left right ∷ []) ops mode.Active (put_of a) (sent_of a) (at [] ops mode.Active)) (sym made.0) (next_after (want.Gain left right ∷ []) ops mode.Active gains way refl refl)
step n t _ _ _ _ answer (writing asked ops some way) made fair = elim (write_is answer made.0 fair) as (λ _. Makes n (want.Write asked) [] ops mode.Active answer) [
  | inl put ↦ subst (λ (a : ClientCall). AnswersOn (side_of t a) asked a → Makes n (want.Write asked) [] ops mode.Active a)
      (sym put.2) (λ h. let least = put_least t asked put.0 put.1 h in put_after asked put.1 (asked - put.1) ops way (omega arith)) made.1
  | inr full ↦ subst (Makes n (want.Write asked) [] ops mode.Active) (sym full.1) (waits refl refl refl)
]
step n t _ _ _ _ answer (clearing ops way) made fair = let s = clear_is answer made.0 in
    subst (λ (a : ClientCall). IsFair a → Makes n want.Clear [] ops mode.Active a)
    (sym s.1) (λ f. clear_after (want.Clear ∷ []) ops mode.Active _ [] _ f (next_after (want.Clear ∷ []) ops mode.Active 0 way refl refl)) fair
step n t _ _ _ _ answer (clearing_more count ops some way) made fair = let s = clear_is answer made.0 in
    subst (λ (a : ClientCall). IsFair a → Makes n want.Clear (want.Write count ∷ []) ops mode.Active a)
    (sym s.1) (λ f. clear_after (want.Clear ∷ want.Write count ∷ []) ops mode.Active _ (want.Write count ∷ []) _ f
    (goes (want.Write count ∷ []) ops mode.Active refl (writing count ops some way) (omega arith) (omega arith) refl)) fair
step n t _ _ _ _ answer stopping made fair = let s = sent_is _ _ answer made.0 fair in
    subst (Makes n (want.Send command.Stop) [] (op.Drain ∷ op.Remove ∷ []) mode.Active) (sym s.3)
    (goes (want.Drained ∷ []) (op.Remove ∷ []) mode.Stopped refl draining (omega arith) (omega arith) (ap (λ c. 1 ∷ 2 ∷ c ∷ []) (sym s.4)))
step n t _ _ _ _ answer draining made fair = let s = status_is answer made.0 in
    subst (λ (a : ClientCall). IsFair a → Makes n want.Drained [] (op.Remove ∷ []) mode.Stopped a)
    (sym s.1) (λ f. status_after (want.Drained ∷ []) (op.Remove ∷ []) mode.Stopped (state_in s.0 == 15) _ (at [] (op.Remove ∷ []) mode.Stopped) f
    (goes (want.Send command.Remove ∷ []) [] mode.Stopped refl removing (omega arith) (omega arith) refl)) fair
step n t _ _ _ _ answer removing made fair = let s = sent_is _ _ answer made.0 fair in
    subst (Makes n (want.Send command.Remove) [] [] mode.Stopped) (sym s.3) (over refl (ap (λ c. 1 ∷ 2 ∷ 4 ∷ c ∷ []) s.4))
