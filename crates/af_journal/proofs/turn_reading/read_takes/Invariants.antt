use Rattle.std.proofs.Common.{◌≡◌, ◌≤◌, All, map, length}
use Rattle.af_journal.proofs.Common.{IsTake, flat_map, take_seen}
use Rattle.af_journal.specs.Taken.{Leaves}
use Rattle.af_journal.specs.Texts.{take_lines}
use Rattle.af_journal.proofs.Rising.{RiseTo}
use Rattle.af_journal.proofs.turn_reading.read_takes.Given as goal

abbrev pub invariant-takes : goal.invariant-takes
invariant-takes l = record {
  lines : Leaves l.initial.left.rest.now (flat_map take_lines (map take_seen l.takes.items)) l.left.rest.now;
  form : All (IsTake l.tracks) (map take_seen l.takes.items);
  rise : RiseTo 0 l.low (map take_seen l.takes.items);
  room : l.takes.room ≡ l.tracks;
  below : l.low ≤ l.tracks;
}

abbrev pub decreases-takes : goal.decreases-takes
decreases-takes l = length l.left.rest.now
