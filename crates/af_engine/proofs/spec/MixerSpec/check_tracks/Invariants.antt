use Rattle.af_engine.proofs.Common.{EngineTrack, IsEngineTrack, slice_index_or, ℕ}
use Rattle.std.specs.Prelude.{◌<◌}
use Rattle.af_engine.proofs.spec.MixerSpec.check_tracks.Given as goal

abbrev pub invariant-loop-index : goal.invariant-loop-index
invariant-loop-index l = (k : ℕ) (d : EngineTrack) → k < l.index → IsEngineTrack (slice_index_or l.self.tracks.now k d)
