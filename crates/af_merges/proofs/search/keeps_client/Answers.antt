use Rattle.std.proofs.Common.{arith, ◌∙◌, ◌+◌, sym, ap}
use Rattle.af_merges.proofs.Common.{HandEvent}
use Rattle.af_merges.specs.MergePieces.{names_at_least}
use Rattle.af_merges.specs.Rising.{rises_from}
use Rattle.af_merges.proofs.MetTests.{client-kept, drop_past}
use Rattle.af_merges.proofs.Rising.{rises-drop}
use Rattle.std.proofs.Common.{List, ◌≡◌, true, subst}
use Rattle.af_merges.proofs.search.keeps_client.Goals as goal

pub returns-then-hands-hand : goal.returns-then-hands-hand
returns-then-hands-hand c =
    sym (client-kept c.args.hand.now 0 c.args.clients c.args.hands (c.args.hands + 1) (omega arith) c.requires.kept
    ∙ ap (names_at_least (c.args.clients + 1)) (drop_past (c.args.hands + 1) c.args.hand.now (omega arith)))

pub returns : goal.returns
returns c =
    c.names_all.ensures
    ∙ (ap (names_at_least (c.args.clients + 1)) c.later.ensures
    ∙ sym (client-kept c.args.hand.now 0 c.args.clients c.args.hands (c.args.hands + 1) (omega arith) c.requires.kept))

pub names_all-requires : goal.names_all-requires
names_all-requires c = λ up.
    subst (λ (xs : List HandEvent). rises_from 0 xs ≡ true) (sym c.later.ensures) (rises-drop c.args.hand.now 0 (c.args.hands + 1) (c.requires.told up))
