-- A client that has sent its STOP touches its stream no more, whatever it is answered.
use Rattle.std.proofs.Common.{◌≡◌, ℕ, ◌*◌, ◌≤◌, ◌==◌, ◌&&◌, ◌||◌, nat_le, not, if◌then◌else◌, Bool, true, false, Some, None, List, [], ◌∷◌, length, fold, refl, sym, ap, ◌∙◌, subst, arith}
use Rattle.af_enough_law.proofs.Common.{Client, ClientCall, IsWanted, LegalClientTurn, Mode, Op, Track, Want, after_answer, after_call, begun, commands_sent, is_of_commands, is_send, next_want, no, settled_in, some_same, state_in, wanted_of, with_call}
use Rattle.af_base.specs.declared.event.ClientCall.TheVariants as call
use Rattle.af_script.specs.declared.op.Op.TheVariants as op
use Rattle.af_runs.specs.declared.want.ClientCommand.TheVariants as command
use Rattle.af_runs.specs.declared.want.Mode.TheVariants as mode
use Rattle.af_runs.specs.declared.want.Want.TheVariants as want
use Rattle.af_enough_law.proofs.ClientWalk.{turn_keeps}
use Rattle.af_enough_law.proofs.Playing.{Doing, opening, starting, settling, setting, writing, clearing, clearing_more, stopping, draining, removing}
use Rattle.af_enough_law.proofs.Doing.{at, codes_of, codes_sent, status_is}
use Rattle.af_enough_law.proofs.Turning.{Stands, on, gone_for_good, words_of, client_after, none_ended, none_some}

-- ## A client that is done with its stream

-- a client that is done with its stream waits for its track to be drained, sends its REMOVE, or wants nothing in this turn
data Silent (c : Client) : Type 0 where
  drains : begun c ≡ at (want.Drained ∷ []) (op.Remove ∷ []) mode.Stopped → Silent c
  removes : begun c ≡ at (want.Send command.Remove ∷ []) [] mode.Stopped → Silent c
  rests : next_want (begun c) ≡ None → Silent c

either_silent : (b : Bool) (x y : Client) → Silent x → Silent y → Silent (if b then x else y)
either_silent true x y h g = h
either_silent false x y h g = g

after_status_silent : (n word : ℕ) → Silent (after_answer n want.Drained [] (at (want.Drained ∷ []) (op.Remove ∷ []) mode.Stopped) (call.Status word))
after_status_silent n word = either_silent (state_in word == 15) _ _ (rests refl) (either_silent (nat_le n (settled_in word) && (not true || (state_in word == 8))) _ _ (removes refl) (rests refl))

after_send_silent : (n code argument : ℕ) (answer : ClientCall) → is_send code argument answer ≡ true → Silent (after_answer n (want.Send command.Remove) [] (at (want.Send command.Remove ∷ []) [] mode.Stopped) answer) × (is_of_commands answer ≡ true)
after_send_silent n code argument (call.Sent front c a) h = (rests refl, refl)
after_send_silent n code argument (call.SendFull front) h = (rests refl, refl)
after_send_silent n code argument (call.SendDead flags) h = (rests refl, refl)
after_send_silent n code argument (call.SendCorrupt front rear) h = (rests refl, refl)
after_send_silent n code argument _ h = no h

by_side : (b : Bool) (t u v : Track) → u.stream ≡ t.stream → b ≡ true → (if b then u else v).stream ≡ t.stream
by_side true t u v same e = same
by_side false t u v same e = no e

-- what a call leaves
call_silent : (t : Track) (w : Want) (answer : ClientCall) → Silent t.client → wanted_of t ≡ Some w → IsWanted t w answer → Silent (after_call t answer).client × ((after_call t answer).stream ≡ t.stream)
call_silent t w answer (drains is) wanted made =
    let same : w ≡ want.Drained = some_same w want.Drained (sym wanted ∙ ap (λ (c : Client). next_want c) is) in
    let status = status_is answer (subst (λ (x : Want). IsWanted t x answer) same made) in
    let client = client_after t (want.Drained ∷ []) (op.Remove ∷ []) mode.Stopped want.Drained answer is (wanted ∙ ap Some same) in (
      subst Silent (sym (client ∙ ap (after_answer (commands_sent (with_call t answer)) want.Drained [] (at (want.Drained ∷ []) (op.Remove ∷ []) mode.Stopped)) status.1)) (after_status_silent (commands_sent (with_call t answer)) status.0),
      by_side (is_of_commands answer) t _ _ refl (ap is_of_commands status.1),
    )
call_silent t w answer (removes is) wanted made =
    let same : w ≡ want.Send command.Remove = some_same w (want.Send command.Remove) (sym wanted ∙ ap (λ (c : Client). next_want c) is) in
    let client = client_after t (want.Send command.Remove ∷ []) [] mode.Stopped (want.Send command.Remove) answer is (wanted ∙ ap Some same) in
    let sent = after_send_silent (commands_sent (with_call t answer)) _ _ answer (subst (λ (x : Want). IsWanted t x answer) same made) in
    (subst Silent (sym client) sent.0, by_side (is_of_commands answer) t _ _ refl sent.1)
call_silent t w answer (rests none) wanted made = none_some (wanted_of t) w none wanted

-- ## A client that has sent three commands

pub words_long : (sent : List (ℕ × ℕ)) → length (words_of sent) ≡ 2 * length (codes_of sent)
words_long [] = refl
words_long (c ∷ sent) = let rest = words_long sent in omega arith

doing_silent : (c : Client) (due : List Want) (ops : List Op) (m : Mode) → begun c ≡ at due ops m → Doing due ops m → 3 ≤ length (codes_sent due m) → Silent c
doing_silent c _ _ _ is (opening ops way) some = absurd (let z : ⊥ = omega (arith, some) in z)
doing_silent c _ _ _ is (starting ops way) some = absurd (let z : ⊥ = omega (arith, some) in z)
doing_silent c _ _ _ is (settling ops way) some = absurd (let z : ⊥ = omega (arith, some) in z)
doing_silent c _ _ _ is (setting left right gains ops way) some = absurd (let z : ⊥ = omega (arith, some) in z)
doing_silent c _ _ _ is (writing count ops one way) some = absurd (let z : ⊥ = omega (arith, some) in z)
doing_silent c _ _ _ is (clearing ops way) some = absurd (let z : ⊥ = omega (arith, some) in z)
doing_silent c _ _ _ is (clearing_more count ops one way) some = absurd (let z : ⊥ = omega (arith, some) in z)
doing_silent c _ _ _ is stopping some = absurd (let z : ⊥ = omega (arith, some) in z)
doing_silent c _ _ _ is draining some = drains is
doing_silent c _ _ _ is removing some = removes is

stands_silent : (t : Track) (most total : ℕ) → Stands t most total → 6 ≤ length t.commands.released → Silent t.client
stands_silent t most total (on due ops m is left) some =
    let a = ap length left.words in
    let b = words_long left.sent in
    let c = ap length left.codes in
    doing_silent t.client due ops m is left.doing (omega (arith, a, b, c, some))
stands_silent t most total (gone_for_good ended sent words codes) some = rests (none_ended t.client ended)

-- The turn of a client that has sent three commands leaves its side of the stream block as it was
pub silent_turn : (t : Track) (calls : List ClientCall) (most total : ℕ) → LegalClientTurn t calls → Stands t most total → 6 ≤ length t.commands.released → (fold after_call t calls).stream ≡ t.stream
silent_turn t calls most total legal stands some =
    (turn_keeps (λ (u : Track). Silent u.client × (u.stream ≡ t.stream)) (λ u w answer is wanted made. let one = call_silent u w answer is.0 wanted made.0 in (one.0, one.1 ∙ is.1)) t calls legal (stands_silent t most total stands some, refl)).1
