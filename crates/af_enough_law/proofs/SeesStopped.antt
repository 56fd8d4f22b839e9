-- A client that has sent its STOP, and sees in its turn that its track is stopped, sends its REMOVE in it.
use Rattle.std.proofs.Common.{◌≡◌, inl, inr, ℕ, ◌+◌, ◌-◌, ◌*◌, ◌≤◌, ◌==◌, ◌&&◌, ◌||◌, not, nat_le, true, false, Some, List, [], ◌∷◌, ◌++◌, length, fold, sym, ap, ◌∙◌, subst, arith, length-append, if◌then◌else◌}
use Rattle.af_enough_law.proofs.Common.{AreCalls, Client, ClientCall, IsMade, Mode, Op, Track, Want, after_answer, after_call, append-nil, begins_ended, begun, commands_sent, next_want, settled_in, some_same, state_in, wanted_of, with_call}
use Rattle.af_base.specs.declared.event.ClientCall.TheVariants as call
use Rattle.af_script.specs.declared.op.Op.TheVariants as op
use Rattle.af_runs.specs.declared.want.ClientCommand.TheVariants as command
use Rattle.af_runs.specs.declared.want.Mode.TheVariants as mode
use Rattle.af_runs.specs.declared.want.Want.TheVariants as want
use Rattle.af_enough_law.proofs.Playing.{Doing, opening, starting, settling, setting, writing, clearing, clearing_more, stopping, draining, removing, AreFair}
use Rattle.af_enough_law.proofs.Doing.{at, codes_sent, sent_of, sent_is, status_is}
use Rattle.af_enough_law.proofs.FairTurns.{codes_long}
use Rattle.af_enough_law.proofs.Turning.{Stands, on, gone_for_good, words_of, none_some, client_after, spoken_after}

-- the status word says that the track has stopped, with its STOP settled
pub record SaysStopped (word : ℕ) : Type 0 where
  pub state : state_in word ≡ 8
  pub settled : 3 ≤ settled_in word

-- ## Calls

-- no words are taken back
pub spoken_long : (t : Track) (calls : List ClientCall) → AreFair calls → length t.commands.released ≤ length (fold after_call t calls).commands.released
spoken_long t [] fair = omega arith
spoken_long t (answer ∷ calls) fair =
    let rest = spoken_long (after_call t answer) calls fair.1 in
    let now = ap (λ (ws : List ℕ). length ws) (spoken_after t answer fair.0) in
    let split = length-append t.commands.released (words_of (sent_of answer)) in
    omega (arith, rest, now, split)

-- a client that wants to send its REMOVE does so
sends_remove : (left : ℕ) (t : Track) (calls : List ClientCall) → begun t.client ≡ at (want.Send command.Remove ∷ []) [] mode.Stopped → 1 ≤ left → AreCalls left t calls → AreFair calls → length t.commands.released + 2 ≤ length (fold after_call t calls).commands.released
sends_remove left t [] is some (inl none) fair = absurd (let z : ⊥ = omega (arith, some, none) in z)
sends_remove left t [] is some (inr none) fair = none_some (wanted_of t) (want.Send command.Remove) none (ap (λ (c : Client). next_want c) is)
sends_remove left t (answer ∷ calls) is some made fair =
    let wanted = made.1 in
    let same : wanted ≡ want.Send command.Remove = some_same wanted (want.Send command.Remove) (sym made.2 ∙ ap (λ (c : Client). next_want c) is) in
    let one : IsMade t (want.Send command.Remove) answer = subst (λ (w : Want). IsMade t w answer) same made.3 in
    let s = sent_is _ _ answer one.0 fair.0 in
    let spoken = ap (λ (ws : List ℕ). length ws) (spoken_after t answer fair.0) in
    let split = length-append t.commands.released (words_of (sent_of answer)) in
    let two : length (words_of (sent_of answer)) ≡ 2 = ap (λ (a : ClientCall). length (words_of (sent_of a))) s.3 in
    let rest = spoken_long (after_call t answer) calls fair.1 in
    omega (arith, spoken, split, two, rest)

-- if the first look at the status says that the track is stopped, a client that waits for it goes on to its REMOVE
drained_goes : (n word : ℕ) → SaysStopped word → n ≤ 3 → after_answer n want.Drained [] (at (want.Drained ∷ []) (op.Remove ∷ []) mode.Stopped) (call.Status word) ≡ at [] (op.Remove ∷ []) mode.Stopped
drained_goes n word says few =
    let settled = says.settled in
    let a : (state_in word == 15) ≡ false = ap (λ (x : ℕ). x == 15) says.state in
    let b : (state_in word == 8) ≡ true = ap (λ (x : ℕ). x == 8) says.state in
    let c : nat_le n (settled_in word) ≡ true = search (arith, settled, few) in
    λ j. if a j then record (at (want.Drained ∷ []) (op.Remove ∷ []) mode.Stopped) { ended = true } else if c j && (not true || b j) then at [] (op.Remove ∷ []) mode.Stopped else record (at (want.Drained ∷ []) (op.Remove ∷ []) mode.Stopped) { waiting = true }

sees_stopped : (left : ℕ) (t : Track) (calls : List ClientCall) → begun t.client ≡ at (want.Drained ∷ []) (op.Remove ∷ []) mode.Stopped → length t.commands.released ≡ 6 → 2 ≤ left → AreCalls left t calls → AreFair calls
    → ((word : ℕ) (rest : List ClientCall) → calls ≡ call.Status word ∷ rest → SaysStopped word) → 8 ≤ length (fold after_call t calls).commands.released
sees_stopped left t [] is six some (inl none) fair says = absurd (let z : ⊥ = omega (arith, some, none) in z)
sees_stopped left t [] is six some (inr none) fair says = none_some (wanted_of t) want.Drained none (ap (λ (c : Client). next_want c) is)
sees_stopped left t (answer ∷ calls) is six some made fair says =
    let wanted = made.1 in
    let same : wanted ≡ want.Drained = some_same wanted want.Drained (sym made.2 ∙ ap (λ (c : Client). next_want c) is) in
    let one : IsMade t want.Drained answer = subst (λ (w : Want). IsMade t w answer) same made.3 in
    let s = status_is answer one.0 in
    let next = after_call t answer in
    let none : sent_of answer ≡ [] = ap sent_of s.1 in
    let spoken = ap (λ (ws : List ℕ). length ws) (spoken_after t answer fair.0 ∙ ap (λ (xs : List (ℕ × ℕ)). t.commands.released ++ words_of xs) none ∙ append-nil t.commands.released) in
    let released : length (with_call t answer).commands.released ≡ 6 = spoken ∙ six in
    let few : commands_sent (with_call t answer) ≤ 3 = omega (arith, released) in
    let client : next.client ≡ at [] (op.Remove ∷ []) mode.Stopped =
    client_after t (want.Drained ∷ []) (op.Remove ∷ []) mode.Stopped want.Drained answer is (made.2 ∙ ap (λ (x : Want). Some x) same)
    ∙ ap (λ (a : ClientCall). after_answer (commands_sent (with_call t answer)) want.Drained [] (at (want.Drained ∷ []) (op.Remove ∷ []) mode.Stopped) a) s.1
    ∙ drained_goes (commands_sent (with_call t answer)) s.0 (says s.0 calls (ap (λ (a : ClientCall). a ∷ calls) s.1)) few in
    let rest = sends_remove (left - 1) next calls (ap (λ (c : Client). begun c) client) (omega (arith, some)) made.4 fair.1 in
    omega (arith, rest, spoken, six)

-- ## A turn

-- the STOP was sent before: the client waits for it, sends its REMOVE, or has ended
pub remove_sent : (t : Track) (calls : List ClientCall) (most total : ℕ) → Stands t most total → 6 ≤ length t.commands.released → (t.client.ended ≡ false → AreCalls 64 t calls) → AreFair calls
    → ((word : ℕ) (rest : List ClientCall) → calls ≡ call.Status word ∷ rest → SaysStopped word) → 8 ≤ length (fold after_call t calls).commands.released
remove_sent t calls most total (gone_for_good ended given words codes) some made fair says =
    let long = codes_long given (1 ∷ 2 ∷ 4 ∷ 6 ∷ []) codes in
    let here = ap length words in
    let rest = spoken_long t calls fair in
    omega (arith, long, here, rest)
remove_sent t calls most total (on due ops m is left) some made fair says = by due ops m left.doing is (codes_long left.sent (codes_sent due m) left.codes)
  where
    here : length t.commands.released ≡ length (words_of left.sent)
    here = ap length left.words

    going : (due : List Want) (ops : List Op) (m : Mode) → begun t.client ≡ at due ops m → t.client.ended ≡ false
    going due ops m is = sym (begins_ended t.client t.client.due t.client.ops) ∙ ap (λ (c : Client). c.ended) is

    few : (n : ℕ) → length (words_of left.sent) ≡ 2 * n → n ≤ 2 → ⊥
    few n long low = let h = here in omega (arith, long, low, h, some)

    by : (due : List Want) (ops : List Op) (m : Mode) → Doing due ops m → begun t.client ≡ at due ops m → length (words_of left.sent) ≡ 2 * length (codes_sent due m) → 8 ≤ length (fold after_call t calls).commands.released
    by _ _ _ (opening ops way) is long = absurd (few 0 long (omega arith))
    by _ _ _ (starting ops way) is long = absurd (few 1 long (omega arith))
    by _ _ _ (settling ops way) is long = absurd (few 2 long (omega arith))
    by _ _ _ (setting l r gains ops way) is long = absurd (few 2 long (omega arith))
    by _ _ _ (writing count ops one way) is long = absurd (few 2 long (omega arith))
    by _ _ _ (clearing ops way) is long = absurd (few 2 long (omega arith))
    by _ _ _ (clearing_more count ops one way) is long = absurd (few 2 long (omega arith))
    by _ _ _ stopping is long = absurd (few 2 long (omega arith))
    by due ops m draining is long = let h = here in sees_stopped 64 t calls is (omega (arith, h, long)) (omega arith) (made (going due ops m is)) fair says
    by due ops m removing is long = let h = here in let r = sends_remove 64 t calls is (omega arith) (made (going due ops m is)) fair in omega (arith, h, long, r)
