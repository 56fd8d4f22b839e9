use Rattle.std.proofs.Common.{◌≡◌, ◌-◌, eqb-true, sym, subst, ◌∙◌, arith}
use Rattle.af_fast.specs.contracts.mixer.FastMixer.{the_view}
use Rattle.af_fast.specs.Mixer.{MixerState, IsInOrderAfter}
use Rattle.af_fast.proofs.Added.{kept_so}
use Rattle.af_fast.proofs.mixer.FastMixer.has_kept.Goals as goal

pub returns-in-Some : goal.returns-in-Some
returns-in-Some c = λ same.
    let m : MixerState = the_view c.self.inside in
    let k = subst (IsInOrderAfter c.requires.earlier) (sym c.self.view_is) c.requires.order in
    subst (λ (y : MixerState). y.last ≡ y.observer.current) c.self.view_is
    (kept_so m (c.len-len.result - 1) c.in-Some.entry.now k (omega arith) c.in-Some.ensures.1 (eqb-true c.in-Some.entry.now.state c.number.result same ∙ c.number.ensures))
