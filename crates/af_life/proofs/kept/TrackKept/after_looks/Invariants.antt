use Rattle.std.proofs.Common.{◌≡◌, ◌≤◌, ◌+◌, drop}
use Rattle.af_life.specs.Obeys.{after_looks}
use Rattle.af_life.proofs.kept.TrackKept.after_looks.Given as goal

abbrev pub invariant-loop-look : goal.invariant-loop-look
invariant-loop-look l = record {
  rest : after_looks l.given l.flush_seen (drop l.look-index l.looks) l.track ≡ after_looks l.given l.flush_seen l.looks l.initial.track;
  few : l.track.settled ≤ l.initial.track.settled + l.look-index;
}
