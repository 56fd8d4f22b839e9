use Rattle.std.proofs.Common.{◌≡◌, drop}
use Rattle.af_merges.specs.MergePieces.{names_at_least}
use Rattle.af_merges.proofs.search.names_each.Given as goal

abbrev pub invariant-loop-event : goal.invariant-loop-event
invariant-loop-event l = names_at_least l.clients l.hand ≡ names_at_least l.clients (drop l.event-index l.hand)
