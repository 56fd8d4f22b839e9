-- Each of the four lanes is the sample of a side of one of the two sums.
use Rattle.std.proofs.Common.{◌≡◌, ℤ, w32, of_z, map, [], ◌∷◌}
use Rattle.af_gain.proofs.Common.{Frame}
use borrow.Rule.Simd.Lanes.{act2}
use borrow.Table.Row.{s_int}
use lib.Lanes.{zip2}
use mir.Syntax.{shr, signed}
use Rattle.af_gain.proofs.Mixes.{lanes_fit, narrow_mixed_is}
use Rattle.af_gain.proofs.narrow.mixed_lanes.Goals as goal

abbrev frame_of : ℤ → ℤ → Frame
frame_of left right = record { left = left; right = right }

two : {a b d e f g h i : ℤ} → a ≡ b → d ≡ e → f ≡ g → h ≡ i → frame_of a d ∷ frame_of f h ∷ [] ≡ frame_of b e ∷ frame_of g i ∷ []
two p q r s = cc

pub overflow_cast-samples : goal.overflow_cast-samples
overflow_cast-samples c = lanes_fit (zip2 (act2 (shr signed) (s_int w32) (s_int w32) (s_int w32)) (map (of_z w32) c.args.sums) (12 ∷ 12 ∷ 12 ∷ 12 ∷ []))

pub returns : goal.returns
returns c = λ first second a b is.
    rw is (two (narrow_mixed_is first.left a.left) (narrow_mixed_is first.right a.right) (narrow_mixed_is second.left b.left) (narrow_mixed_is second.right b.right))
