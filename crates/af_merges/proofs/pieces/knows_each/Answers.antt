use Rattle.std.proofs.Common.{arith, ◌∙◌, sym, ap, length, refl, rules}
use Rattle.af_merges.specs.Stages.{known_by}
use Rattle.af_merges.proofs.MetTests.{knows-last, before_is}
use Rattle.af_merges.proofs.pieces.knows_each.Goals as goal

pub returns-then-is_empty : goal.returns-then-is_empty
returns-then-is_empty c = sym (knows-last c.args.hand.now 0 c.args.clients (length c.args.hand.now) 0 (search rules) (search rules) c.requires)

pub returns : goal.returns
returns c =
    c.is_known.ensures ∙ sym (knows-last c.args.hand.now 0 c.args.clients (length c.args.hand.now) (length c.args.hand.now) refl (omega arith) c.requires
    ∙ ap (known_by c.args.clients) (before_is c.args.hand.now (length c.args.hand.now) (search rules) ∙ sym c.event_at.ensures))
