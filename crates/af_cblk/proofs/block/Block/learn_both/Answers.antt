use Rattle.std.proofs.Common.{rules, ◌≤◌, ◌≡◌, ◌-◌, sym, ap, ◌∙◌, refl, subst, true, length}
use Rattle.af_cblk.proofs.Common.{Shape, is_lawful, lawful_more}
use Rattle.af_base.specs.declared.event.ClientEvent.TheVariants as client
use Rattle.af_base.specs.declared.event.ServerEvent.TheVariants as server
use Rattle.af_cblk.specs.Parts.{client_met, server_did}
use Rattle.af_cblk.specs.Plays.{Meeting}
use Rattle.af_cblk.specs.Sides.{Made}
use Rattle.af_cblk.proofs.Calls.{learns_by_client, learns_by_server}
use Rattle.af_cblk.proofs.Parting.{one_less}
use Rattle.af_cblk.specs.Unshut.{NeitherShut}
use Rattle.af_cblk.proofs.NoneShut.{neither_shut}
use Rattle.af_cblk.proofs.block.Block.learn_both.Goals as goal

pub load-requires : goal.load-requires
load-requires g c = (c.requires.table ∙ ap (λ (m : Made). m.id) (sym c.self.view_is), search rules, learns_by_client _ _ c.self.invariant.0 _ _ _ c.requires.client c.requires.server)

pub load-requires-2 : goal.load-requires-2
load-requires-2 g c =
    let first = c.load.ensures in (
      first.0 ∙ c.requires.table ∙ ap (λ (m : Made). m.id) (sym c.self.view_is),
      search rules,
      learns_by_server _ _ c.self.invariant.0 _ _ _ (ap (λ m. m.0.is_client) first.2 ∙ c.requires.client) (ap (λ m. m.0.is_server) first.2 ∙ c.requires.server)
          (ap (λ m. m.0.client.shape) first.2 ∙ c.requires.shape ∙ ap (λ (m : Made). m.shape) (sym c.self.view_is)),
    )

pub returns-clause-history : goal.returns-clause-history
returns-clause-history g c = λ ok.
    let m = c.args.seat.now.me in
    let first = c.load.ensures in
    let last = c.load-2.ensures in
    let after = subst (λ x. is_lawful x.0.client.events ≡ true) (sym first.2) (lawful_more m.0.client.events (client.Learn (length m.0.server.events)) refl ok) in
    let told = last.2.1 after in
    let both =
    last.2.0
    ∙ ap (λ x. (record x.0 { server = server_did x.0.server (server.Learn (length x.0.client.events - 1)) }, x.1)) first.2
    ∙ ap (λ n. (record m.0 { client = client_met m.0.client m.0.server.events; server = server_did m.0.server (server.Learn n) }, m.1)) (one_less m.0.client.events (client.Learn (length m.0.server.events))) in
    (told.0, (λ has. told.1 (ap (λ x. x.0.is_hand) first.2 ∙ has) ∙ ap (λ x. x.0.hand.events) first.2), subst (λ x. Meeting x.0 told.0) both told.2)

pub returns-clause-unshut : goal.returns-clause-unshut
returns-clause-unshut g c = λ ok.
    let m = c.args.seat.now.me in
    let few = subst (λ (k : Shape). k.frames ≤ 65536) (sym (c.requires.shape ∙ ap (λ (x : Made). x.shape) (sym c.self.view_is))) c.self.invariant.2.few in
    subst (λ (k : Shape). NeitherShut k m.0.client.events m.0.server.events) c.requires.shape
    (neither_shut m.0.client.shape few m.0.client.events m.0.client.frames m.0.server.events m.0.server.frames _ _ _ (returns-clause-history g c ok).2)
