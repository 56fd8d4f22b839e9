use Rattle.std.proofs.Common.{map, slice_index_or, false, cond}
use Rattle.af_journal.specs.Pokes.{PokeJust}
use Rattle.af_journal.proofs.poked.all_calls.Given as goal

abbrev pub invariant-loop-track : goal.invariant-loop-track
invariant-loop-track l = PokeJust l.track (λ block track. slice_index_or (cond block l.commands l.streams) track false) (map (λ c. c.items) l.clients.items)
