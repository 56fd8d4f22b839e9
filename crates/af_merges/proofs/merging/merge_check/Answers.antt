use Rattle.af_merges.specs.Stages.{Lists}
use Rattle.af_merges.proofs.TurnsAndOrders.{HasLegalOrder-walk}
use Rattle.af_merges.proofs.merging.merge_check.Goals as goal

pub returns-in-Ok : goal.returns-in-Ok
returns-in-Ok c =
    let l : Lists = record { client = c.args.client.now; server = c.args.server.now; hand = c.args.hand.now } in
    let two = HasLegalOrder-walk l c.args.from.now in
    ((λ yes. two.0 (c.in-Ok.ensures.0 yes)), (λ some. c.in-Ok.ensures.1 (two.1 some)))
