use Rattle.std.proofs.Common.{map, take}
use Rattle.af_journal.proofs.Common.{track_seen}
use Rattle.af_journal.specs.Texts.{GoesOn, each_from, track_lines}
use Rattle.af_journal.proofs.turn.add_tracks.Given as goal

abbrev pub invariant-loop-i : goal.invariant-loop-i
invariant-loop-i l = GoesOn l.fn.text.bytes.items (each_from track_lines 0 (take l.i (map track_seen l.tracks))) l.text.bytes.items
