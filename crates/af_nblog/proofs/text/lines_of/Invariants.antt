use Rattle.std.proofs.Common.{◌≡◌, take, string_bytes}
use Rattle.af_nblog.specs.LogText.{note_lines}
use Rattle.af_nblog.proofs.text.lines_of.Given as goal

abbrev pub invariant-loop-note : goal.invariant-loop-note
invariant-loop-note l = string_bytes l.text ≡ note_lines (take l.note-index l.notes)
