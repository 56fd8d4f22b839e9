use Rattle.std.proofs.Common.{◌≢◌, ◌<◌, length, arith, below_more, get_or-set_same, get_or-set_other, length-set}
use Rattle.af_journal.proofs.Spelling.{hex-at, pair-digits}
use Rattle.af_journal.proofs.hexadecimal.bytes_at.Goals as goal

pub number_of-high-requires : goal.number_of-high-requires
number_of-high-requires g c = hex-at c.args.digits.now _ c.requires.digits (omega arith)

pub number_of-low-requires : goal.number_of-low-requires
number_of-low-requires g c = hex-at c.args.digits.now _ c.requires.digits (omega arith)

pub loop-i-preserved : goal.loop-i-preserved
loop-i-preserved g c =
    let inside : c.loop-i.i < length c.loop-i.bytes = omega arith in
    record {
      long = rw length-set c.loop-i.invariant.long;
      made = below_more _ _
          (λ k h. let ne : k ≢ c.loop-i.i = omega arith in rw get_or-set_other (c.loop-i.invariant.made k h))
          (rw get_or-set_same (pair-digits c.number_of-high.result c.number_of-low.result _ _ c.number_of-low.ensures.small c.number_of-high.ensures.digit c.number_of-low.ensures.digit));
    }
