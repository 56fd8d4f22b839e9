use Rattle.std.proofs.Common.{◌≡◌, ◌+◌, ◌∙◌, length, ap, arith}
use Rattle.af_party.proofs.Common.{ClientCall, Roomy, length_push}
use Rattle.af_party.specs.Turning.{Calls, Rests}
use Rattle.af_party.proofs.TurnMade.{step_more, turn_cut, turn_rests}
use Rattle.af_party.proofs.party.Party.call_on.Goals as goal

pub returns-then-not-step-clause-turned : goal.returns-then-not-step-clause-turned
returns-then-not-step-clause-turned g c =
    let inv = c.loop.invariant in
    let rests : Rests c.args.ops.now c.args.file.now c.loop.self c.step.new.self = c.if-not-step.ensures.stepped in
    turn_rests c.args.ops.now c.args.file.now c.args.self.now c.loop.self c.step.new.self inv.made (omega (arith, inv.count, c.loop-test.true)) rests

pub loop-preserved : goal.loop-preserved
loop-preserved g c =
    let inv = c.loop.invariant in let e = c.step.ensures in
    let called : Calls c.args.ops.now c.args.file.now c.loop.self c.step.new.self = c.if-not-step.ensures.stepped in
    let long : length c.step.new.self.calls.items ≡ length c.loop.self.calls.items + 1 = ap (λ (x : Roomy ClientCall). length x.items) called.calls ∙ length_push c.loop.self.calls.items called.answer in
    record {
      blocks = e.blocks;
      work = e.work;
      track = e.track ∙ inv.track;
      made = step_more c.args.ops.now c.args.file.now c.args.self.now c.loop.self c.step.new.self inv.made called;
      count = omega (arith, inv.count, long);
      few = omega (arith, inv.few, e.few);
    }

pub returns-clause-turned : goal.returns-clause-turned
returns-clause-turned g c =
    let inv = c.loop.invariant in
    turn_cut c.args.ops.now c.args.file.now c.args.self.now c.loop.self c.rest.new.self inv.made (omega (arith, inv.count, c.loop-test.false, c.loop.auto.counter-end)) c.rest.ensures.same c.rest.ensures.client
