use Rattle.std.proofs.Common.{rules, ◌≡◌, ℕ, true, length, refl, sym, ap, ◌∙◌, subst}
use Rattle.af_server.proofs.Common.{ServerPart, ServerSide, server_did}
use Rattle.af_base.specs.declared.event.ServerEvent.TheVariants as server
use Rattle.af_model.specs.Fates.{drops_none}
use Rattle.af_model.proofs.Discards.{discards-before}
use Rattle.af_model.proofs.Fates.{taken_begins, drops_more}
use Rattle.af_server.specs.Order.{ServerState, Keeps}
use Rattle.af_server.proofs.Kept.{met_keeps}
use Rattle.af_server.proofs.server.Server.meet.Goals as goal

pub returns-clause-ready : goal.returns-clause-ready
returns-clause-ready g c =
    let old : ServerState = c.args.self.now in
    let count : ℕ = length c.args.client.now.part.events in
    let done = met_keeps old.pass.part (server_did old.pass.part (server.Learn count)) old.flush old.flushes old.front old.shown old.consumed old.shut count c.requires.ready.1 refl in
    let there = subst (λ (x : ServerState). Keeps (server_did x.pass.part (server.Learn count)) x.flush x.flushes x.front x.shown x.consumed x.shut) (sym c.self.view_is) done in
    (search rules, subst (λ (x : ServerPart). Keeps x c.self.inside.flush c.self.inside.flushes c.self.inside.front c.self.inside.shown c.self.inside.consumed c.self.inside.shut) (sym (ap (λ (x : ServerSide). x.part) c.meet.ensures.server)) there)

pub returns-clause-begins : goal.returns-clause-begins
returns-clause-begins g c = λ lawful none.
    let told = c.meet.ensures.history lawful in
    let count : ℕ = length c.args.client.now.part.events in
    let same : c.meet.new.server.part ≡ server_did c.args.self.now.pass.part (server.Learn count) =
    ap (λ (x : ServerSide). x.part) c.meet.ensures.server ∙ ap (λ (x : ServerState). server_did x.pass.part (server.Learn count)) c.self.view_is in
    let clean : drops_none c.meet.new.server.part.events ≡ true =
    subst (λ (x : ServerPart). drops_none x.events ≡ true) (sym same) (drops_more c.args.self.now.pass.part.events (server.Learn count) refl none) in
    taken_begins _ _ _ _ _ _ told.2 clean

pub returns-clause-flushed : goal.returns-clause-flushed
returns-clause-flushed g c = λ lawful placed.
    let told = c.meet.ensures.history lawful in
    (told.0, (told.2, discards-before c.args.block.now.shape placed told.2.order told.2.legal))
