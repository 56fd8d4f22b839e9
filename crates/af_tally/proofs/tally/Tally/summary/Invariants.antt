use Rattle.std.proofs.Common.{◌≡◌, ◌*◌, ◌^◌, ◌≤◌}
use Rattle.af_tally.specs.Summaries.{in_all}
use Rattle.af_tally.proofs.Tallying.{mixed_at, discarded_at, queued_at}
use Rattle.af_tally.proofs.tally.Tally.summary.Given as goal

abbrev pub invariant-loop-track : goal.invariant-loop-track
invariant-loop-track l = record {
  mixed : l.mixed ≡ in_all l.track (mixed_at l.self.tracks);
  dropped : l.dropped ≡ in_all l.track (discarded_at l.self.tracks);
  queued : l.queued ≡ in_all l.track (queued_at l.self.tracks l.released);
  mixed_fits : l.mixed ≤ l.track * 2 ^ 56;
  dropped_fits : l.dropped ≤ l.track * 2 ^ 56;
  queued_fits : l.queued ≤ l.track * 2 ^ 58;
}
