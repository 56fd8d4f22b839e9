use Rattle.std.proofs.Common.{◌≡◌, map, take}
use Rattle.af_session.proofs.Common.{engine_track}
use Rattle.af_session.proofs.tracks.engine_tracks.Given as goal

abbrev pub invariant-loop-spec : goal.invariant-loop-spec
invariant-loop-spec l = l.tracks.items ≡ map (engine_track l.version) (take l.spec-index l.specs)
