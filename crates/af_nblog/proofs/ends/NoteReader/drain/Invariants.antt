use Rattle.std.proofs.Common.{◌≡◌, ◌++◌, List, length}
use Rattle.af_nblog.specs.declared.entries.Note.{Note}
use Rattle.af_nblog.specs.NoteEnds.{reader_made, read}
use Rattle.af_nblog.specs.NoteRounds.{HasRead}
use Rattle.af_nblog.proofs.ends.NoteReader.drain.Given as goal

abbrev pub invariant-loop-i : goal.invariant-loop-i
invariant-loop-i g l = record {
  made : reader_made l.self ≡ l.block;
  more : (more : List Note) × (l.notes ≡ record l.initial.notes { items = l.initial.notes.items ++ more }) × (read l.self ≡ read l.initial.self ++ more) × HasRead l.initial.self.pass more l.self.pass × (length more ≡ l.i);
}
