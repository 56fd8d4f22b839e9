use Rattle.std.proofs.Common.{◌≡◌, length, map, take}
use Rattle.af_session.proofs.Common.{track_seen}
use Rattle.af_session.proofs.noting.copied_tracks.Given as goal

abbrev pub invariant-loop-i : goal.invariant-loop-i
invariant-loop-i l = (map track_seen l.copy.items ≡ map track_seen (take l.i l.tracks)) × (length l.copy.items ≡ l.i) × (l.copy.room ≡ length l.tracks)
