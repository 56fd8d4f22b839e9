use Rattle.std.proofs.Common.{◌≡◌, length}
use Rattle.af_normal.proofs.Given.{AreGiven}
use Rattle.af_normal.proofs.sums.mix_takes.Given as goal

abbrev pub invariant-loop-i : goal.invariant-loop-i
invariant-loop-i l = record {
  whole : length l.parts ≡ 32;
  each : AreGiven l.settings l.takes l.parts l.i;
}
