-- A client that was never shut answered no Corrupt, and one that poked nothing stays lawful.
use Rattle.std.proofs.Common.{◌≡◌, ◌-◌, ◌<◌, not, Bool, true, false, true≢false, if◌then◌else◌, fold, List, [], ◌∷◌, None, refl, ◌∙◌}
use Rattle.af_parties_law.proofs.Common.{ClientCall, IsPoke, LegalClientTurn, PartyState, Track, after_call, after_calls, both_first, both_right, both_true, called, has_no_poke, is_corrupt, is_lawful, is_of_commands, is_poke, lawful_call, none_corrupt, not_true, with_call}
use Rattle.af_base.specs.declared.event.ClientCall.TheVariants as call
use Rattle.af_runs.specs.ClientTurns.{released_by}
use Rattle.af_audit.proofs.CallsUnshut.{kept_of, unshut_turn}
use Rattle.af_audit.specs.Spared.{is_corrupt_on, none_corrupt_on}

-- neither proxy of a track is shut
abbrev pub AreOpen : Track → Type 0
AreOpen t = ((kept_of t.stream).shut ≡ None) × ((kept_of t.commands).shut ≡ None)

-- nothing was poked on either block
abbrev pub AreTame : Track → Type 0
AreTame t = (is_lawful t.stream.events ≡ true) × (is_lawful t.commands.events ≡ true)

-- a client's two lists hold no poke
abbrev pub IsTame : PartyState → Type 0
IsTame p = (is_lawful p.stream.pass.part.events ≡ true) × (is_lawful p.command.pass.part.events ≡ true)

-- ## A turn

-- a call that is Corrupt on neither block isn't Corrupt
on_neither : (answer : ClientCall) → not (is_corrupt_on true answer) ≡ true → not (is_corrupt_on false answer) ≡ true → not (is_corrupt answer) ≡ true
on_neither (call.SendCorrupt front rear) a b = a
on_neither (call.Corrupt front rear) a b = b
on_neither _ a b = refl

none_on_neither : (calls : List ClientCall) → none_corrupt_on true calls ≡ true → none_corrupt_on false calls ≡ true → none_corrupt calls ≡ true
none_on_neither [] a b = refl
none_on_neither (answer ∷ calls) a b =
    both_true (not (is_corrupt answer)) (none_corrupt calls)
    (on_neither answer (both_first (not (is_corrupt_on true answer)) (none_corrupt_on true calls) a) (both_first (not (is_corrupt_on false answer)) (none_corrupt_on false calls) b))
    (none_on_neither calls (both_right (not (is_corrupt_on true answer)) (none_corrupt_on true calls) a) (both_right (not (is_corrupt_on false answer)) (none_corrupt_on false calls) b))

-- if neither proxy is shut after a legal turn, none of its calls was Corrupt
pub open_turn : (t : Track) (calls : List ClientCall) → LegalClientTurn t calls → AreOpen (after_calls t calls) → none_corrupt calls ≡ true
open_turn t calls legal fine = none_on_neither calls (unshut_turn true t calls legal fine.1).1 (unshut_turn false t calls legal fine.0).1

-- ## Lawful calls

calm_call : (answer : ClientCall) → is_poke answer ≡ false → IsPoke answer → ⊥
calm_call (call.Poke command word value) calm poke = true≢false calm
calm_call _ calm poke = poke

module _ (t : Track) (answer : ClientCall) (calm : is_poke answer ≡ false) where
  tame_by : (b : Bool) → AreTame t → AreTame (if b then record t { commands = called answer (released_by t answer) t.commands } else record t { stream = called answer (released_by t answer) t.stream })
  tame_by true tame = (tame.0, lawful_call t.commands.shape.frames t.commands.shape.base t.commands.events answer (calm_call answer calm) tame.1)
  tame_by false tame = (lawful_call t.stream.shape.frames t.stream.shape.base t.stream.events answer (calm_call answer calm) tame.0, tame.1)

tame_calls : (t : Track) (calls : List ClientCall) → has_no_poke calls ≡ true → AreTame t → AreTame (fold after_call t calls)
tame_calls t [] calm tame = tame
tame_calls t (answer ∷ calls) calm tame =
    let calm_one : is_poke answer ≡ false = not_true (is_poke answer) (both_first (not (is_poke answer)) (has_no_poke calls) calm) in
    let one : AreTame (with_call t answer) = tame_by t answer calm_one (is_of_commands answer) tame in
    tame_calls (after_call t answer) calls (both_right (not (is_poke answer)) (has_no_poke calls) calm) (one.0, one.1)

pub tame_turn : (t : Track) (calls : List ClientCall) → has_no_poke calls ≡ true → AreTame t → AreTame (after_calls t calls)
tame_turn t calls calm tame = let all = tame_calls t calls calm tame in (all.0, all.1)
