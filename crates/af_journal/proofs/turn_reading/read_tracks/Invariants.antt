use Rattle.std.proofs.Common.{◌≡◌, All, List, map, length}
use Rattle.af_journal.proofs.Common.{IsCommandLook, TrackSeen, track_seen}
use Rattle.af_journal.specs.Judged.{first_looks}
use Rattle.af_journal.specs.Taken.{Leaves}
use Rattle.af_journal.specs.Texts.{each_from, track_lines}
use Rattle.af_journal.proofs.turn_reading.read_tracks.Given as goal

abbrev pub invariant-loop-track : goal.invariant-loop-track
invariant-loop-track l =
    (all : List TrackSeen) × (map track_seen l.turns.items ≡ map (first_looks l.most) all) × (length all ≡ l.track) × All (λ (t : TrackSeen). All IsCommandLook t.looks) all
    × Leaves l.initial.left.rest.now (each_from track_lines 0 all) l.left.rest.now × (length l.turns.items ≡ l.track) × (l.turns.room ≡ l.tracks)
