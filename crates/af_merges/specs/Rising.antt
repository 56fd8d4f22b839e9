-- Lists of the hand in which each Met names no fewer client events than the Met before it.
use Rattle.std.specs.Prelude.{ℕ, List, [], ◌∷◌, Bool, true, nat_le, ◌&&◌}
use Rattle.af_base.specs.declared.event.HandEvent.{HandEvent}
use Rattle.af_base.specs.declared.event.HandEvent.TheVariants as hand

-- each Met names at least so many client events, and no fewer than the Met before it
abbrev pub rises_from : ℕ → List HandEvent → Bool
rises_from low [] = true
rises_from low (hand.SetFlags bits ∷ hs) = rises_from low hs
rises_from low (hand.Met known ∷ hs) = nat_le low known && rises_from known hs

-- the first Met names at least so many client events
abbrev pub first_names : ℕ → List HandEvent → Bool
first_names n [] = true
first_names n (hand.SetFlags bits ∷ hs) = first_names n hs
first_names n (hand.Met known ∷ hs) = nat_le n known
