use Rattle.std.proofs.Common.{false, sym, subst, ap, ◌∙◌}
use Rattle.af_fast.specs.contracts.mixer.FastMixer.{the_view}
use Rattle.af_fast.specs.Mixer.{MixerState, IsInOrderAfter, is_over}
use Rattle.af_fast.specs.Mixing.{MixesOnceAfter}
use Rattle.af_fast.proofs.Adopted.{rest_order}
use Rattle.af_fast.proofs.Added.{adds_so, over_so}
use Rattle.af_fast.proofs.mixer.FastMixer.mix.Goals as goal

-- the mixer is over
pub returns-then-is_over-clause-order : goal.returns-then-is_over-clause-order
returns-then-is_over-clause-order g c = λ earlier k.
    let m : MixerState = the_view c.self.inside in
    rest_order earlier m (subst (IsInOrderAfter earlier) (sym c.self.view_is) k) (ap is_over c.self.view_is ∙ sym c.is_over.ensures ∙ c.if-is_over.true)

pub returns-then-is_over-clause-mixes : goal.returns-then-is_over-clause-mixes
returns-then-is_over-clause-mixes g c = λ earlier _.
    let m : MixerState = the_view c.self.inside in
    subst (λ (y : MixerState). MixesOnceAfter earlier y c.args.out.now c.over_answer.result (record m { adopted = false }) c.args.out.now) c.self.view_is
    (over_so m c.args.out.now c.over_answer.result (ap is_over c.self.view_is ∙ sym c.is_over.ensures ∙ c.if-is_over.true) c.over_answer.ensures)

-- an entry is added
pub returns-clause-mixes : goal.returns-clause-mixes
returns-clause-mixes g c = λ earlier k. adds_so c.args.self.now c.add_cycle.new.self c.args.out.now c.add_cycle.new.out c.add_cycle.result (sym c.is_over.ensures ∙ c.if-is_over.false) (c.add_cycle.ensures.adds earlier k)
