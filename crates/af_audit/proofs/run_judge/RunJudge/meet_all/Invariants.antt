use Rattle.std.proofs.Common.{◌≡◌, ◌<◌, IfSome, length}
use Rattle.af_audit.specs.MeetingsJudged.{TracksMet}
use Rattle.af_audit.proofs.run_judge.RunJudge.meet_all.Given as goal

abbrev pub invariant-loop-at : goal.invariant-loop-at
invariant-loop-at l = record {
  least : IfSome l.least (λ track. track < length l.initial.tracks);
  count : length l.tracks ≡ length l.initial.tracks;
  met : TracksMet l.self l.at l.initial.tracks l.tracks l.least;
}
