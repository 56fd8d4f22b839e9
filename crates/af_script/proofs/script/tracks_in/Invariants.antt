use Rattle.std.proofs.Common.{◌≡◌, length}
use Rattle.af_script.specs.Reading.{track_item}
use Rattle.af_script.proofs.Each.{ReadSoFar}
use Rattle.af_script.proofs.script.tracks_in.Given as goal

abbrev pub invariant-loop-index : goal.invariant-loop-index
invariant-loop-index l = record {
  so_far : ReadSoFar track_item l.values l.tracks.items l.index;
  count : length l.tracks.items ≡ l.index;
}
