use Rattle.std.proofs.Common.{◌∙◌, sym}
use Rattle.af_merges.proofs.Rising.{names-first}
use Rattle.af_merges.proofs.search.names_all.Goals as goal

pub returns-then-rises : goal.returns-then-rises
returns-then-rises c = c.first_names_each.ensures ∙ sym (names-first c.args.hand.now c.args.clients 0 (c.requires c.if-rises.true))
