use Rattle.std.proofs.Common.{◌≡◌, ◌++◌, drop, map, take}
use Rattle.af_audit.specs.RoundTold.{ended_track}
use Rattle.af_audit.proofs.run_judge.end_all.Given as goal

abbrev pub invariant-loop-track : goal.invariant-loop-track
invariant-loop-track l = l.track-items ≡ map ended_track (take l.track-index l.initial.track-items) ++ drop l.track-index l.initial.track-items
