use Rattle.std.proofs.Common.{◌≡◌, ℕ, ◌+◌, ap, ◌∙◌}
use Rattle.af_client.proofs.Common.{flushes_of}
use Rattle.af_client.specs.Order.{ClientState}
use Rattle.af_client.proofs.Kept.{flush_keeps}
use Rattle.af_client.proofs.client.Client.flush.Goals as goal

pub returns-clause-ready : goal.returns-clause-ready
returns-clause-ready g c =
    let count : c.self.inside.flushes + 1 ≡ flushes_of c.args.self.now.pass.part.events + 1 =
    ap (λ (x : ClientState). x.flushes + 1) c.self.view_is ∙ ap (λ (n : ℕ). n + 1) c.requires.ready.1.flushes_are in
    (c.add_flush.ensures.made, flush_keeps c.args.self.now _ c.add_flush.new.pass (c.self.inside.flushes + 1) c.requires.ready.1 count c.self.view_is c.add_flush.ensures.flushed)
