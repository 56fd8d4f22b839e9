use Rattle.std.proofs.Common.{◌≡◌, ◌<◌, IfSome, length}
use Rattle.af_audit.proofs.Common.{calls_at}
use Rattle.af_audit.specs.RunKept.{CallsJudged}
use Rattle.af_audit.proofs.run_judge.call_all.Given as goal

abbrev pub invariant-loop-at : goal.invariant-loop-at
invariant-loop-at l = record {
  least : IfSome l.least (λ track. track < length l.initial.tracks);
  count : length l.tracks ≡ length l.initial.tracks;
  calls : CallsJudged l.at l.specs l.files (calls_at l.journal l.round) l.initial.tracks l.tracks l.least;
}
