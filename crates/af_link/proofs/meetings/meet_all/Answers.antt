use Rattle.std.proofs.Common.{rules, ◌≡◌, ℕ, true, length, sym, ap, ◌∙◌, subst}
use Rattle.af_model.specs.History.{is_lawful}
use Rattle.af_model.proofs.Discards.{discards-before}
use Rattle.af_base.specs.declared.event.ServerEvent.TheVariants as server
use Rattle.af_cblk.specs.Parts.{client_met, server_did}
use Rattle.af_cblk.specs.Sides.{ClientSide, ServerSide}
use Rattle.af_client.proofs.Kept.{met_keeps}
use Rattle.af_server.proofs.Kept.{met_keeps as server_met}
use Rattle.af_link.proofs.meetings.meet_all.Goals as goal

pub returns-clause-ready : goal.returns-clause-ready
returns-clause-ready g c =
    let old = c.args.client.now in
    let their = c.args.server.now in
    let theirs = their.pass.part.events in
    let count : ℕ = length old.pass.part.events in
    let values : (c.pass.result.now ≡ old.pass) × (c.pass-2.result.now ≡ their.pass) = (c.pass.ensures.value, c.pass-2.ensures.value) in
    let client : c.meet_all.new.client.part ≡ client_met old.pass.part theirs =
    c.meet_all.ensures.client ∙ ap (λ (x : ClientSide × ServerSide). client_met x.0.part x.1.part.events) (λ i. (values.0 i, values.1 i)) in
    let server : c.meet_all.new.server.part ≡ server_did their.pass.part (server.Learn count) =
    c.meet_all.ensures.server ∙ ap (λ (x : ClientSide × ServerSide). server_did x.1.part (server.Learn (length x.0.part.events))) (λ i. (values.0 i, values.1 i)) in
    let kept = server_met their.pass.part c.meet_all.new.server.part their.flush their.flushes their.front their.shown their.consumed their.shut count c.requires.ready.1.1 server in
    ((search (rules), met_keeps old.pass.part c.meet_all.new.client.part old.rear old.flushes old.released old.shut theirs c.requires.ready.0.1 client), (search (rules), kept), search (rules))

pub returns-clause-flushed : goal.returns-clause-flushed
returns-clause-flushed g c = λ lawful placed.
    let told = c.meet_all.ensures.history (subst (λ (x : ClientSide). is_lawful x.part.events ≡ true) (sym c.pass.ensures.value) lawful) in
    (told, discards-before c.args.block.now.shape placed told.order told.legal)
