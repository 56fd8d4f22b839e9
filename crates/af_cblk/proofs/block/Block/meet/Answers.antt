use Rattle.std.proofs.Common.{ap, ◌∙◌}
use Rattle.af_cblk.specs.Parts.{client_met}
use Rattle.af_cblk.proofs.Passes.{pass_met}
use Rattle.af_cblk.proofs.block.Block.meet.Goals as goal

pub invariant_of-client : goal.invariant_of-client
invariant_of-client g c =
    let two = c.bring_client.ensures.both in
    let learnt = c.learn_both.ensures.learnt in
    let alone = c.part_client.ensures.alone in
    let is = ap (λ m. m.0.is_client) alone ∙ ap (λ m. m.0.is_client) learnt ∙ ap (λ m. m.0.is_client) two in
    let now = ap (λ m. m.0.client) alone ∙ ap (λ m. m.0.client) learnt ∙ ap (λ m. client_met m.0.client m.0.server.events) two in
    pass_met c.client.inside.seat.me c.part_client.result.me _ _ _ _ c.client.invariant is (ap (λ m. m.1) alone) now
