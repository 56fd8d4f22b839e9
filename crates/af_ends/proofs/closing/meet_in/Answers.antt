use Rattle.std.proofs.Common.{◌≡◌, true, List, length, refl, sym, ap, subst}
use Rattle.af_base.specs.declared.event.ClientEvent.TheVariants as client
use Rattle.af_base.specs.declared.event.HandEvent.{HandEvent}
use Rattle.af_base.specs.declared.event.ServerEvent.TheVariants as server
use Rattle.af_model.specs.Fates.{drops_none}
use Rattle.af_model.specs.History.{is_lawful, HasHistory}
use Rattle.af_model.proofs.Counts.{lawful_more}
use Rattle.af_model.proofs.Fates.{taken_begins, drops_more}
use Rattle.af_client.specs.Order.{ClientState}
use Rattle.af_server.specs.Order.{ServerState}
use Rattle.af_ends.proofs.closing.meet_in.Goals as goal

pub returns-clause-client : goal.returns-clause-client
returns-clause-client g c =
    (c.meet_track.ensures.ready.0, subst (λ (x : ClientState). is_lawful x.pass.part.events ≡ true) (sym c.meet_track.ensures.client) (lawful_more c.args.client.now.pass.part.events (client.Learn (length c.args.server.now.pass.part.events)) refl c.requires.client.1))

pub returns-clause-met : goal.returns-clause-met
returns-clause-met g c = (c.args.client.now.pass.part.events, ap (λ (x : ClientState). x.pass.part.events) c.meet_track.ensures.client, c.meet_track.ensures.server)

pub returns-clause-history : goal.returns-clause-history
returns-clause-history g c =
    let told = c.meet_track.ensures.history c.requires.client.1 in
    let cs = c.meet_track.new.client.pass.part in
    let ss = c.meet_track.new.server.pass.part in
    subst (λ (hand : List HandEvent). HasHistory c.args.block.now.shape cs.events cs.frames ss.events ss.frames hand) (told.1 c.requires.server.1) told.2

pub returns-clause-unshut : goal.returns-clause-unshut
returns-clause-unshut g c = c.meet_track.ensures.unshut c.requires.client.1

pub returns-clause-discards : goal.returns-clause-discards
returns-clause-discards g c =
    let told = c.meet_track.ensures.flushed c.requires.client.1 c.requires.server.2 in
    record { hand = told.0; history = told.1.0; before = told.1.1 }

pub returns-clause-begins : goal.returns-clause-begins
returns-clause-begins g c = λ none.
    let told = c.meet_track.ensures.history c.requires.client.1 in
    let clean : drops_none c.meet_track.new.server.pass.part.events ≡ true =
    subst (λ (x : ServerState). drops_none x.pass.part.events ≡ true) (sym c.meet_track.ensures.server) (drops_more c.args.server.now.pass.part.events (server.Learn (length c.args.client.now.pass.part.events)) refl none) in
    taken_begins _ _ _ _ _ _ told.2 clean
