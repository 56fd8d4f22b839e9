use Rattle.std.proofs.Common.{◌≡◌, length}
use Rattle.af_audit.specs.RunKept.{AreNewTracks}
use Rattle.af_audit.proofs.run_judge.new_tracks.Given as goal

abbrev pub invariant-loop-at : goal.invariant-loop-at
invariant-loop-at l = record {
  count : length l.tracks.items ≡ l.at;
  new : AreNewTracks l.script l.journal.rounds l.at l.tracks.items;
}
