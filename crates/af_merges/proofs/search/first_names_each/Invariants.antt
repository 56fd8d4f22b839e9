use Rattle.std.proofs.Common.{◌≡◌, drop}
use Rattle.af_merges.specs.Rising.{first_names}
use Rattle.af_merges.proofs.search.first_names_each.Given as goal

abbrev pub invariant-loop-event : goal.invariant-loop-event
invariant-loop-event l = first_names l.clients l.hand ≡ first_names l.clients (drop l.event-index l.hand)
