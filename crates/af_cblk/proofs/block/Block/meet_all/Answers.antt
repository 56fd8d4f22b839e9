use Rattle.std.proofs.Common.{◌≡◌, sym, ap, ◌∙◌, refl, subst, true, length}
use Rattle.af_cblk.proofs.Common.{is_lawful, lawful_more}
use Rattle.af_base.specs.declared.event.ClientEvent.TheVariants as client
use Rattle.af_cblk.specs.Sides.{Made, client_made}
use Rattle.af_cblk.proofs.Parting.{met}
use Rattle.af_cblk.specs.Parts.{client_met}
use Rattle.af_cblk.proofs.Passes.{pass_met}
use Rattle.af_cblk.proofs.block.Block.meet_all.Goals as goal

pub returns-clause-history : goal.returns-clause-history
returns-clause-history g c = λ ok.
    let two = c.bring_client.ensures.both in
    let all = c.bring_hand.ensures.both in
    let learnt = c.learn_both.ensures.learnt in
    let last = c.learn_hand.ensures.met in
    let hand = c.part_hand.ensures in
    let out = c.part_client.ensures in
    let before = ap (λ m. m.0.client.events) all ∙ ap (λ m. m.0.client.events) two ∙ ap (λ z. z.part.events) c.client.view_is in
    let v = c.bring_hand.new.to.me.0 in
    let after = subst (λ m. is_lawful m.0.client.events ≡ true) (sym learnt) (lawful_more v.client.events (client.Learn (length v.server.events)) refl (subst (λ es. is_lawful es ≡ true) (sym before) ok)) in
    let told = c.learn_hand.ensures.history after in
    let has = ap (λ m. m.0.is_server) learnt ∙ ap (λ m. m.0.is_server) all ∙ ap (λ m. m.0.is_server) two ∙ c.server.invariant.0 in
    let base = ap (λ m. m.0.client.shape) learnt ∙ ap (λ m. m.0.client.shape) all ∙ ap (λ m. m.0.client.shape) two ∙ ap (λ (m : Made). m.shape) (ap client_made c.client.view_is ∙ c.requires.client) in
    let client_out = ap (λ m. m.0.client) out.alone ∙ ap (λ m. m.0.client) hand.rest ∙ ap (λ m. m.0.client) last in
    let server_out = ap (λ m. m.0.server) out.rest ∙ ap (λ m. m.0.server) hand.rest ∙ ap (λ m. m.0.server) last in
    met _ _ _ _ c.learn_both.new.seat.me.0.client c.learn_both.new.seat.me.0.server c.learn_hand.new.seat.me.0.hand _ _ _ base (c.learn_hand.ensures.known has) (told.2 has) (sym client_out) (sym server_out) (sym (ap (λ m. m.0.hand) hand.alone)) told.3

pub invariant_of-client : goal.invariant_of-client
invariant_of-client g c =
    let two = c.bring_client.ensures.both in
    let all = c.bring_hand.ensures.both in
    let learnt = c.learn_both.ensures.learnt in
    let last = c.learn_hand.ensures.met in
    let rest = c.part_hand.ensures.rest in
    let alone = c.part_client.ensures.alone in
    let is = ap (λ m. m.0.is_client) alone ∙ ap (λ m. m.0.is_client) rest ∙ ap (λ m. m.0.is_client) last ∙ ap (λ m. m.0.is_client) learnt ∙ ap (λ m. m.0.is_client) all ∙ ap (λ m. m.0.is_client) two in
    let now = ap (λ m. m.0.client) alone ∙ ap (λ m. m.0.client) rest ∙ ap (λ m. m.0.client) last ∙ ap (λ m. m.0.client) learnt
    ∙ ap (λ m. client_met m.0.client m.0.server.events) all ∙ ap (λ m. client_met m.0.client m.0.server.events) two in
    pass_met c.client.inside.seat.me c.part_client.result.me _ _ _ _ c.client.invariant is (ap (λ m. m.1) alone) now
