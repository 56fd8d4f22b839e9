use Rattle.std.proofs.Common.{◌≡◌, ◌*◌}
use Rattle.af_journal.specs.Hexadecimal.{AreSpelled}
use Rattle.af_journal.proofs.hexadecimal.frames_of.Given as goal

abbrev pub invariant-loop-row : goal.invariant-loop-row
invariant-loop-row l = record {
  spelled : AreSpelled (64 * l.row) l.digits l.frames.items;
  room : l.frames.room ≡ l.count;
}

abbrev pub invariant-loop-word : goal.invariant-loop-word
invariant-loop-word l = record {
  spelled : AreSpelled (8 * l.word) l.digits l.frames.items;
  room : l.frames.room ≡ l.count;
}
