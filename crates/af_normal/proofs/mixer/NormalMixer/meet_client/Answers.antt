use Rattle.std.proofs.Common.{List, length, Option, sym, ap, subst, ◌∙◌, arith}
use Rattle.af_normal.proofs.Common.{HandSide, ServerState, with_items, with_items_is}
use Rattle.af_normal.specs.Meeting.{AreOf, MeetsTrack}
use Rattle.af_normal.specs.Order.{IsInOrder}
use Rattle.af_normal.specs.State.{NormalState}
use Rattle.af_normal.proofs.MetOrder.{own_of_order, met_order}
use Rattle.af_normal.proofs.mixer.NormalMixer.meet_client.Goals as goal

pub meet_at-requires-clause-own : goal.meet_at-requires-clause-own
meet_at-requires-clause-own g c =
    let streams = c.deref_mut.ensures.value ∙ ap (λ (w : NormalState). w.streams) c.self.view_is in
    let commands = c.deref_mut-2.ensures.value ∙ ap (λ (w : NormalState). w.commands) c.self.view_is in
    let hands = c.deref_mut-3.ensures.value ∙ ap (λ (w : NormalState). w.hands) c.self.view_is in
    subst (λ (q : List (Option ServerState) × List ServerState × List HandSide). AreOf c.args.links.now c.args.track q.0 q.1 q.2) (λ k. (sym streams k, sym commands k, sym hands k))
    (own_of_order c.args.links.now c.args.self.now c.requires.order c.args.track c.requires.track)

pub returns-clause-order : goal.returns-clause-order
returns-clause-order g c =
    let streams = c.deref_mut.ensures.value ∙ ap (λ (w : NormalState). w.streams) c.self.view_is in
    let commands = c.deref_mut-2.ensures.value ∙ ap (λ (w : NormalState). w.commands) c.self.view_is in
    let hands = c.deref_mut-3.ensures.value ∙ ap (λ (w : NormalState). w.hands) c.self.view_is in
    let n = c.meet_at.new in
    let met = subst (λ (q : List (Option ServerState) × List ServerState × List HandSide). MeetsTrack c.args.links.now c.args.track q.0 n.streams q.1 n.commands q.2 n.hands c.args.stream.now n.stream c.args.command.now n.command) (λ k. (streams k, commands k, hands k)) c.meet_at.ensures.met in
    let streams_are = with_items_is c.self.inside.streams n.streams (let a = c.meet_at.auto.streams in let v = ap length c.deref_mut.ensures.value in let o = c.self.inside.streams.ok.0 in omega arith) in
    let commands_are = with_items_is c.self.inside.commands n.commands (let a = c.meet_at.auto.commands in let v = ap length c.deref_mut-2.ensures.value in let o = c.self.inside.commands.ok.0 in omega arith) in
    let hands_are = with_items_is c.self.inside.hands n.hands (let a = c.meet_at.auto.hands in let v = ap length c.deref_mut-3.ensures.value in let o = c.self.inside.hands.ok.0 in omega arith) in
    subst (IsInOrder c.args.links.now) (sym (ap (λ (w : NormalState). record w { streams = (with_items c.self.inside.streams n.streams).items; commands = (with_items c.self.inside.commands n.commands).items; hands = (with_items c.self.inside.hands n.hands).items }) c.self.view_is))
    (subst (λ (q : List (Option ServerState) × List ServerState × List HandSide). IsInOrder c.args.links.now (record c.args.self.now { streams = q.0; commands = q.1; hands = q.2 })) (λ k. (sym streams_are k, sym commands_are k, sym hands_are k))
    (met_order c.args.links.now c.args.self.now c.requires.order c.args.track c.requires.track n.streams n.commands n.hands c.args.stream.now n.stream c.args.command.now n.command c.meet_at.ensures.own met))
