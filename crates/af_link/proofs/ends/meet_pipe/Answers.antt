use Rattle.std.proofs.Common.{◌≡◌, ℕ, List, [], length, ap, sym, subst}
use Rattle.af_base.specs.declared.event.HandEvent.{HandEvent}
use Rattle.af_model.specs.declared.shape.Shape.{Shape}
use Rattle.af_model.specs.History.{HasHistory}
use Rattle.af_model.specs.PipeHistory.{IsTakeList, HasPipeHistory}
use Rattle.af_model.proofs.PipeOrders.{pipe_history}
use Rattle.af_cblk.specs.Sides.{Made, ServerSide}
use Rattle.af_link.specs.PipeEnds.{IsPutting}
use Rattle.af_link.proofs.Puts.{met_keeps, takes_met}
use Rattle.af_link.proofs.Fronts.{sees_taken}
use Rattle.af_link.proofs.ends.meet_pipe.Goals as goal

pub invariant_of-from : goal.invariant_of-from
invariant_of-from g c =
    met_keeps c.from.inside.pass.part c.meet.new.client.part c.from.inside.rear c.from.inside.room c.to.inside.pass.part.events c.from.invariant c.meet.ensures.client

pub returns-clause-history : goal.returns-clause-history
returns-clause-history g c =
    let p = c.meet.new.client.part in
    let s = c.meet.new.server.part in
    let k : IsPutting p c.from.inside.rear c.from.inside.room = met_keeps c.from.inside.pass.part p c.from.inside.rear c.from.inside.room c.to.inside.pass.part.events c.from.invariant c.meet.ensures.client in
    let told = c.meet.ensures.history c.from.invariant.lawful in
    let hand : told.0 ≡ [] = told.1 c.to.invariant.0 in
    let made : c.args.block.now.shape ≡ p.shape = ap (λ (m : Made). m.shape) (sym c.meet.ensures.made) in
    let h : HasHistory p.shape p.events p.frames s.events s.frames [] = subst (λ (x : Shape × List HandEvent). HasHistory x.0 p.events p.frames s.events s.frames x.1) (λ i. (made i, hand i)) told.2 in
    let takes : IsTakeList s.events =
    subst (λ (x : ServerSide). IsTakeList x.part.events) (sym c.meet.ensures.server) (takes_met c.to.inside.pass.part.events (length c.from.inside.pass.part.events) c.to.invariant.1.list) in
    subst (λ (n : ℕ). HasPipeHistory n p.events p.frames s.events s.frames) (ap (λ (m : Made). m.shape.frames) c.meet.ensures.made) (pipe_history p.shape p.shape.frames k.shape.few k.from_zero p.events p.frames s.events s.frames h k.list takes)

pub returns-clause-fronts : goal.returns-clause-fronts
returns-clause-fronts g c =
    let p = c.meet.new.client.part in
    let s = c.meet.new.server.part in
    sees_taken c.args.block.now.shape.frames p.events p.frames s.events s.frames (returns-clause-history g c)
