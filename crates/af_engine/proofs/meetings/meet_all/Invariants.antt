use Rattle.af_engine.proofs.Common.{AreTogether, TrackMet}
use Rattle.af_engine.proofs.MetTracks.{MetSoFar}
use Rattle.af_engine.proofs.meetings.meet_all.Given as goal

abbrev pub invariant-loop-i : goal.invariant-loop-i
invariant-loop-i g l = record {
  together : AreTogether l.links (record { tracks = l.tracks; normal = l.normal; fast = l.fast });
  met : MetSoFar TrackMet l.i l.initial.tracks l.tracks l.initial.normal l.normal l.initial.fast l.fast;
}
