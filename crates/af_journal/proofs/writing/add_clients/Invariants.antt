use Rattle.std.proofs.Common.{take}
use Rattle.af_journal.proofs.Common.{round_at}
use Rattle.af_journal.specs.Texts.{GoesOn, client_lines, each_from}
use Rattle.af_journal.proofs.writing.add_clients.Given as goal

abbrev pub invariant-loop-track : goal.invariant-loop-track
invariant-loop-track l = GoesOn l.fn.text.bytes.items (each_from client_lines 0 (take l.track (round_at l.journal l.round).calls)) l.text.bytes.items
