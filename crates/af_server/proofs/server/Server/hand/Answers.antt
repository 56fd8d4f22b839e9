use Rattle.std.proofs.Common.{rules, None, sym, ap, subst}
use Rattle.af_server.proofs.Common.{ServerPart, ServerSide}
use Rattle.af_server.specs.Order.{ServerState, Keeps}
use Rattle.af_server.proofs.Kept.{rest_keeps}
use Rattle.af_server.proofs.server.Server.hand.Goals as goal

pub returns-clause-ready : goal.returns-clause-ready
returns-clause-ready g c =
    let old : ServerState = c.args.self.now in
    let rests = rest_keeps old.pass.part old.flush old.flushes old.front old.shown old.consumed old.shut c.requires.ready.1 in
    let there = subst (λ (x : ServerState). Keeps x.pass.part x.flush x.flushes x.front None x.consumed x.shut) (sym c.self.view_is) rests in
    (search rules, subst (λ (x : ServerPart). Keeps x c.self.inside.flush c.self.inside.flushes c.self.inside.front None c.self.inside.consumed c.self.inside.shut) (sym (ap (λ (x : ServerSide). x.part) c.hand.ensures.pass)) there)
