use Rattle.std.proofs.Common.{◌≡◌, All, List, length, take}
use Rattle.af_journal.proofs.Common.{CommandLook, IsCommandLook, flat_map}
use Rattle.af_journal.specs.Taken.{Leaves}
use Rattle.af_journal.specs.Texts.{look_lines}
use Rattle.af_journal.proofs.turn_reading.read_looks.Given as goal

abbrev pub invariant-looks : goal.invariant-looks
invariant-looks l = (all : List CommandLook) × (l.looks.items ≡ take l.most all) × All IsCommandLook all × Leaves l.initial.left.rest.now (flat_map (look_lines l.track) all) l.left.rest.now

abbrev pub decreases-looks : goal.decreases-looks
decreases-looks l = length l.left.rest.now
