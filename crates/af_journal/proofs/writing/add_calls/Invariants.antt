use Rattle.std.proofs.Common.{take}
use Rattle.af_journal.specs.Texts.{GoesOn, call_lines}
use Rattle.af_journal.proofs.writing.add_calls.Given as goal

abbrev pub invariant-loop-call : goal.invariant-loop-call
invariant-loop-call l = GoesOn l.fn.text.bytes.items (call_lines (take l.call-index l.calls)) l.text.bytes.items
