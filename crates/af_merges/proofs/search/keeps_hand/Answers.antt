use Rattle.std.proofs.Common.{arith, ◌∙◌, sym, ap}
use Rattle.af_merges.specs.Stages.{known_by}
use Rattle.af_merges.proofs.MetTests.{hand-kept, before_is}
use Rattle.af_merges.proofs.search.keeps_hand.Goals as goal

pub returns-then-hands-eq0 : goal.returns-then-hands-eq0
returns-then-hands-eq0 c = sym (hand-kept c.args.hand.now 0 c.args.clients c.args.hands 0 (omega arith) c.requires)

pub returns : goal.returns
returns c =
    c.is_known.ensures ∙ sym (hand-kept c.args.hand.now 0 c.args.clients c.args.hands c.args.hands (omega arith) c.requires
    ∙ ap (known_by c.args.clients) (before_is c.args.hand.now c.args.hands (omega arith) ∙ sym c.event_at.ensures))
