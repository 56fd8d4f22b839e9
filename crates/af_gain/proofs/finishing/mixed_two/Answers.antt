-- Each of the four lanes is the sample of a side of one of the two sums.
use Rattle.std.proofs.Common.{◌≡◌, ◌+◌, ℤ, [], ◌∷◌}
use Rattle.af_gain.proofs.Common.{Frame}
use Rattle.af_gain.specs.Sums.{sum_at}
use Rattle.af_gain.proofs.Mixes.{whole_fits, sample_fits, mixed_is}
use Rattle.af_gain.proofs.finishing.mixed_two.Goals as goal

abbrev frame_of : ℤ → ℤ → Frame
frame_of left right = record { left = left; right = right }

two : {a b d e f g h i : ℤ} → a ≡ b → d ≡ e → f ≡ g → h ≡ i → frame_of a d ∷ frame_of f h ∷ [] ≡ frame_of b e ∷ frame_of g i ∷ []
two p q r s = cc

pub overflow_cast-whole : goal.overflow_cast-whole
overflow_cast-whole c = (whole_fits (sum_at c.args.sums.now c.args.at).left c.requires.small.0.left, (whole_fits (sum_at c.args.sums.now c.args.at).right c.requires.small.0.right, (whole_fits (sum_at c.args.sums.now (c.args.at + 1)).left c.requires.small.1.left, (whole_fits (sum_at c.args.sums.now (c.args.at + 1)).right c.requires.small.1.right, tt))))

pub overflow_cast-samples : goal.overflow_cast-samples
overflow_cast-samples c = (sample_fits (sum_at c.args.sums.now c.args.at).left c.requires.small.0.left, (sample_fits (sum_at c.args.sums.now c.args.at).right c.requires.small.0.right, (sample_fits (sum_at c.args.sums.now (c.args.at + 1)).left c.requires.small.1.left, (sample_fits (sum_at c.args.sums.now (c.args.at + 1)).right c.requires.small.1.right, tt))))

pub returns : goal.returns
returns c = two (mixed_is (sum_at c.args.sums.now c.args.at).left c.requires.small.0.left) (mixed_is (sum_at c.args.sums.now c.args.at).right c.requires.small.0.right) (mixed_is (sum_at c.args.sums.now (c.args.at + 1)).left c.requires.small.1.left) (mixed_is (sum_at c.args.sums.now (c.args.at + 1)).right c.requires.small.1.right)
