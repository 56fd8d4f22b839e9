use Rattle.std.proofs.Common.{true≢false, refl, sym, ap, subst, ◌∙◌}
use Rattle.af_fast.proofs.Common.{cycle_of, is_mixed}
use Rattle.af_fast.specs.Mixer.{MixerState, IsInOrderAfter}
use Rattle.af_fast.proofs.Added.{mixed_is}
use Rattle.af_fast.proofs.mixer.FastMixer.add_cycle.Goals as goal

pub cycle_of-kind-requires : goal.cycle_of-kind-requires
cycle_of-kind-requires g c = (subst (IsInOrderAfter c.requires.order.earlier) (sym c.self.view_is) c.requires.order.order).observer

pub add_mix-requires-clause-mixed : goal.add_mix-requires-clause-mixed
add_mix-requires-clause-mixed g c = sym (mixed_is c.cycle_of-kind.result (sym c.is_mixed.ensures ∙ c.if-is_mixed.true)) ∙ c.cycle_of-kind.ensures ∙ ap (λ (y : MixerState). cycle_of y.cold y.observer.current) c.self.view_is

pub add_still-requires-clause-kind : goal.add_still-requires-clause-kind
add_still-requires-clause-kind g c = c.cycle_of-kind.ensures ∙ ap (λ (y : MixerState). cycle_of y.cold y.observer.current) c.self.view_is

pub returns-then-is_mixed-clause-adds : goal.returns-then-is_mixed-clause-adds
returns-then-is_mixed-clause-adds g c = λ earlier k.
    let adds = c.add_mix.ensures.adds earlier k in
    (adds.0, mixed_is c.cycle_of-kind.result (sym c.is_mixed.ensures ∙ c.if-is_mixed.true) ∙ adds.1, adds.2, adds.3)

pub returns-clause-adds : goal.returns-clause-adds
returns-clause-adds g c = λ earlier k.
    let adds = c.add_still.ensures.adds earlier k in
    let dry = sym c.is_mixed.ensures ∙ c.if-is_mixed.false in
    (adds.0, adds.1, adds.2, ((λ mixed. absurd (true≢false (sym mixed ∙ ap is_mixed (sym adds.1) ∙ dry))), (λ _. refl)))
