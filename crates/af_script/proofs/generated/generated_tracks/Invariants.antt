use Rattle.std.proofs.Common.{◌≡◌, map}
use Rattle.af_script.proofs.Common.{range_with_len}
use Rattle.af_script.specs.Generated.{generated_track}
use Rattle.af_script.proofs.generated.generated_tracks.Given as goal

abbrev pub invariant-loop-track : goal.invariant-loop-track
invariant-loop-track l = l.tracks.items ≡ map generated_track (range_with_len 0 l.track)
