use Rattle.af_session.proofs.Common.{MetSoFar, TrackMet}
use Rattle.af_session.specs.Together.{AreTogether}
use Rattle.af_session.proofs.meetings.meet.Given as goal

abbrev pub invariant-loop-i : goal.invariant-loop-i
invariant-loop-i g l = record {
  together : AreTogether l.links (record { clients = l.clients; normal = l.normal; fast = l.fast });
  met : MetSoFar TrackMet l.i l.initial.clients l.clients l.initial.normal l.normal l.initial.fast l.fast;
}
