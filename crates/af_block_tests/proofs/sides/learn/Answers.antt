use Rattle.std.proofs.Common.{◌≡◌, ap, ◌∙◌}
use Rattle.af_cblk.specs.Parts.{client_met}
use Rattle.af_cblk.specs.Sides.{ClientSide}
use Rattle.af_client.proofs.Kept.{met_keeps}
use Rattle.af_client.specs.Order.{ClientState}
use Rattle.af_block_tests.proofs.sides.learn.Goals as goal

pub returns-clause-client : goal.returns-clause-client
returns-clause-client g c =
    let before : ClientState = c.args.client.now in
    let lent : c.pass.result.now ≡ before.pass = c.pass.ensures.value in
    let met : c.meet.new.client.part ≡ client_met before.pass.part c.args.server.now.pass.part.events =
    c.meet.ensures.client ∙ ap (λ (x : ClientSide). client_met x.part c.args.server.now.pass.part.events) lent in
    (c.meet.ensures.made, met_keeps before.pass.part c.meet.new.client.part before.rear before.flushes before.released before.shut c.args.server.now.pass.part.events c.requires.client.1 met)
