use Rattle.std.proofs.Common.{◌≡◌, max, drop}
use Rattle.af_base.specs.Mix.{peak_of}
use Rattle.af_tally.proofs.tally.peak_of.Given as goal

abbrev pub invariant-loop-frame : goal.invariant-loop-frame
invariant-loop-frame l = peak_of l.frames ≡ max l.peak (peak_of (drop l.frame-index l.frames))
