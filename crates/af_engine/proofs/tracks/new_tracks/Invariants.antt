use Rattle.af_engine.proofs.Common.{AreNewTracks, IsNewTrack}
use Rattle.af_engine.proofs.tracks.new_tracks.Given as goal

abbrev pub invariant-loop-index : goal.invariant-loop-index
invariant-loop-index l = AreNewTracks IsNewTrack l.index l.specs l.made.streams.items l.made.commands.items l.made.clients.items l.made.tracks
