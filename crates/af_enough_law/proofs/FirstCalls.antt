-- In its first whole turn a client that plays through sends OPEN and START.
use Rattle.std.proofs.Common.{◌≡◌, ◌⊎◌, inl, inr, ℕ, ◌+◌, ◌-◌, ◌≤◌, Some, None, List, [], ◌∷◌, length, length-append, fold, sym, ap, ◌∙◌, subst, arith}
use Rattle.af_enough_law.proofs.Common.{AreCalls, Client, ClientCall, ClientCommand, IsMade, Mode, Op, Track, Want, after_answer, after_call, begun, commands_sent, next_want, some_same, wanted_of, with_call}
use Rattle.af_base.specs.declared.event.ClientCall.TheVariants as call
use Rattle.af_script.specs.declared.op.Op.TheVariants as op
use Rattle.af_runs.specs.declared.want.ClientCommand.TheVariants as command
use Rattle.af_runs.specs.declared.want.Mode.TheVariants as mode
use Rattle.af_runs.specs.declared.want.Want.TheVariants as want
use Rattle.af_enough_law.proofs.Playing.{IsFair, AreFair}
use Rattle.af_enough_law.proofs.Doing.{at, sent_is, sent_of}
use Rattle.af_enough_law.proofs.Turning.{none_some, client_after, words_of, spoken_after}
use Rattle.af_enough_law.proofs.SeesStopped.{spoken_long as released_on}

-- a send that is wanted, and answered fairly, sends two words
sends_one : (t : Track) (due : List Want) (ops : List Op) (m : Mode) (sending : ClientCommand) (rest : List Want) (answer : ClientCall) (wanted : Want) → begun t.client ≡ at (want.Send sending ∷ rest) ops m → wanted_of t ≡ Some wanted → IsMade t wanted answer → IsFair answer
    → (front : ℕ) × (code : ℕ) × (argument : ℕ) × (answer ≡ call.Sent front code argument) × ((after_call t answer).client ≡ after_answer (commands_sent (with_call t answer)) (want.Send sending) rest (at (want.Send sending ∷ rest) ops m) answer)
    × (length (after_call t answer).commands.released ≡ length t.commands.released + 2)
sends_one t due ops m sending rest answer wanted is wants made fair =
    let same : wanted ≡ want.Send sending = some_same wanted (want.Send sending) (sym wants ∙ ap (λ (c : Client). next_want c) is) in
    let sent = sent_is _ _ answer (subst (λ (w : Want). IsMade t w answer) same made).0 fair in
    let client = client_after t (want.Send sending ∷ rest) ops m (want.Send sending) answer is (wants ∙ ap (λ (w : Want). Some w) same) in
    let spoken = ap length (spoken_after t answer fair) ∙ length-append t.commands.released (words_of (sent_of answer)) in
    let two : length (words_of (sent_of answer)) ≡ 2 = ap (λ (x : ClientCall). length (words_of (sent_of x))) sent.3 in
    (sent.0, sent.1, sent.2, sent.3, client, omega (arith, spoken, two))

-- a client that is about to open its track
abbrev pub first_of : List Op → Client
first_of ops = at (want.Send command.Open ∷ []) (op.Start ∷ ops) mode.Idle

abbrev pub second_of : List Op → Client
second_of ops = at (want.Send command.Start ∷ want.Settled ∷ []) ops mode.Idle

-- the turn goes on while a send is wanted
goes : {A : Type 0} (left : ℕ) (t : Track) (due : List Want) (ops : List Op) (m : Mode) (sending : ClientCommand) → begun t.client ≡ at (want.Send sending ∷ due) ops m → 1 ≤ left → (left ≡ 0) ⊎ (wanted_of t ≡ None) → A
goes left t due ops m sending is some (inl none) = absurd (let z : ⊥ = omega (arith, none, some) in z)
goes left t due ops m sending is some (inr none) = none_some (wanted_of t) (want.Send sending) none (ap (λ (c : Client). next_want c) is)

pub second_turn : (left : ℕ) (t : Track) (calls : List ClientCall) (ops : List Op) → 1 ≤ left → begun t.client ≡ second_of ops → AreCalls left t calls → AreFair calls → length t.commands.released + 2 ≤ length (fold after_call t calls).commands.released
second_turn left t [] ops some is made fair = goes left t (want.Settled ∷ []) ops mode.Idle command.Start is some made
second_turn left t (answer ∷ calls) ops some is made fair =
    let one = sends_one t [] ops mode.Idle command.Start (want.Settled ∷ []) answer made.1 is made.2 made.3 fair.0 in
    let more = released_on (after_call t answer) calls fair.1 in
    let two = one.5 in
    omega (arith, more, two)

-- A whole fair turn of a client that is about to open its track sends both
pub first_turn : (left : ℕ) (t : Track) (calls : List ClientCall) (ops : List Op) → 2 ≤ left → begun t.client ≡ first_of ops → AreCalls left t calls → AreFair calls → 4 ≤ length (fold after_call t calls).commands.released
first_turn left t [] ops some is made fair = goes left t [] (op.Start ∷ ops) mode.Idle command.Open is (omega (arith, some)) made
first_turn left t (answer ∷ calls) ops some is made fair =
    let one = sends_one t [] (op.Start ∷ ops) mode.Idle command.Open [] answer made.1 is made.2 made.3 fair.0 in
    let client : (after_call t answer).client ≡ at [] (op.Start ∷ ops) mode.Idle =
    one.4 ∙ ap (λ (a : ClientCall). after_answer (commands_sent (with_call t answer)) (want.Send command.Open) [] (first_of ops) a) one.3 in
    let then_is : begun (after_call t answer).client ≡ second_of ops = ap begun client in
    let rest = second_turn (left - 1) (after_call t answer) calls ops (omega (arith, some)) then_is made.4 fair.1 in
    let two = one.5 in
    omega (arith, rest, two)
