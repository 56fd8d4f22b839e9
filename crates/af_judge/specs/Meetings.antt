-- Lists of a hand that only meets the client.
use Rattle.std.specs.Prelude.{ℕ, ◌≤◌, Bool, true, false, List, [], ◌∷◌}
use Rattle.af_base.specs.declared.event.HandEvent.{HandEvent}
use Rattle.af_base.specs.declared.event.HandEvent.TheVariants as hand

-- each event is a Met, which names no fewer client events than the one before it, the first one at least `low` and none more than `high`
abbrev pub AreMeetings : (low high : ℕ) → List HandEvent → Type 0
AreMeetings low high [] = low ≤ high
AreMeetings low high (hand.SetFlags bits ∷ hs) = ⊥
AreMeetings low high (hand.Met known ∷ hs) = low ≤ known × AreMeetings known high hs

-- what the hand did: nothing if there is none
abbrev pub hand_of_own : Bool → List HandEvent → List HandEvent
hand_of_own true hs = hs
hand_of_own false hs = []
