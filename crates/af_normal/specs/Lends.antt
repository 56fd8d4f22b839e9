-- What a mixer ends as, once the hand of a track that it lent has ended.
use Rattle.std.specs.Prelude.{ℕ, Option, slice_set}
use Rattle.std.specs.Borrow.{Lends, LendsIf, Fml, MutBor}
use Rattle.af_cblk.specs.Sides.{HandSide}
use Rattle.af_cblk.specs.contracts.pass.FlagHand.{the_row as flag_row}
use Rattle.af_normal.specs.State.{NormalState}
use Rattle.af_normal.specs.contracts.mixer.NormalMixer.{the_row}
use Rattle.af_normal.specs.contracts.mixer.TrackHand.{the_row as hand_row}

-- the hand of the track is the last value written through r, and at `None` the mixer stays as it is
abbrev pub lends_hand : MutBor NormalState → ℕ → Option (MutBor HandSide) → Fml
lends_hand m i r = LendsIf the_row hand_row m r (λ w. record m.now { hands = slice_set m.now.hands i w }) m.now

-- a track's hand is the hand written through r
abbrev pub lends_flag : MutBor HandSide → MutBor HandSide → Fml
lends_flag h r = Lends hand_row flag_row h r (λ w. w)
