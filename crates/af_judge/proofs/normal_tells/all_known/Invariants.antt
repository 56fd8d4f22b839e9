use Rattle.std.proofs.Common.{◌≡◌, take}
use Rattle.af_judge.specs.NormalTold.{all_known}
use Rattle.af_judge.proofs.normal_tells.all_known.Given as goal

abbrev pub invariant-loop-track : goal.invariant-loop-track
invariant-loop-track l = l.own.items ≡ all_known (take l.track-index l.tracks)
