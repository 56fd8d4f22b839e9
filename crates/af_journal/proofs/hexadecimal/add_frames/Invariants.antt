use Rattle.std.proofs.Common.{◌≡◌, ◌+◌, ◌*◌}
use Rattle.af_journal.specs.Hexadecimal.{AreSpelled}
use Rattle.af_journal.proofs.hexadecimal.add_frames.Given as goal

abbrev pub invariant-loop-word : goal.invariant-loop-word
invariant-loop-word g l = record {
  spelled : AreSpelled (l.at + 8 * l.word) l.digits l.frames.items;
  room : l.frames.room ≡ l.fn.frames.room;
}
