use Rattle.std.proofs.Common.{◌∙◌, sym, ap, subst}
use Rattle.af_fast.specs.contracts.mixer.FastMixer.{the_view}
use Rattle.af_fast.specs.Mixer.{MixerState, IsInOrderAfter, is_over}
use Rattle.af_fast.proofs.Adopted.{polled_order}
use Rattle.af_fast.proofs.mixer.FastMixer.adopt.Goals as goal

pub returns-clause-order : goal.returns-clause-order
returns-clause-order g c = λ earlier k.
    let m : MixerState = the_view c.self.inside in
    polled_order earlier m c.poll.new.self c.poll.result c.args.steps.now c.poll.new.steps (subst (IsInOrderAfter earlier) (sym c.self.view_is) k)
    (ap is_over c.self.view_is ∙ sym c.is_over-over.ensures ∙ c.if-over.false)
    (ap (λ (y : MixerState). y.adopted) c.self.view_is ∙ c.requires.turn) c.poll.ensures.order c.poll.ensures.answer
