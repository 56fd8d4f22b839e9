use Rattle.std.proofs.Common.{◌≡◌, length, sym, ap, subst, ◌∙◌, arith}
use Rattle.af_session.proofs.Common.{IsReadyOn, SessionState, given_of, with_items_is}
use Rattle.af_session.proofs.Ready.{ready_met}
use Rattle.af_session.proofs.parties.Parties.meet_all.Goals as goal

pub returns-clause-ready : goal.returns-clause-ready
returns-clause-ready g c = λ n ready.
    let was : SessionState = record { clients = c.deref_mut.result.now; normal = c.self.inside.normal; fast = c.self.inside.fast } in
    let is : was ≡ c.args.self.now = (λ i. record { clients = c.deref_mut.ensures.value i; normal = c.self.inside.normal; fast = c.self.inside.fast }) ∙ c.self.view_is in
    let now : SessionState = record { clients = c.meet.new.clients; normal = c.meet.new.normal; fast = c.meet.new.fast } in
    let kept = with_items_is c.self.inside.clients c.meet.new.clients (let a = c.meet.auto.clients in let v = ap length c.deref_mut.ensures.value in let o = c.self.inside.clients.ok.0 in omega arith) in
    subst (IsReadyOn c.args.rig.now n) (λ i. record { clients = sym kept i; normal = c.meet.new.normal; fast = c.meet.new.fast })
    (ready_met (given_of c.args.rig.now) c.args.rig.now.links n was
    (subst (IsReadyOn c.args.rig.now n) (sym is) ready) now c.meet.ensures.together c.meet.ensures.met)
