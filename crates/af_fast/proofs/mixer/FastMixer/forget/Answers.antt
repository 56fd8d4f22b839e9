use Rattle.std.proofs.Common.{sym, subst, arith}
use Rattle.af_fast.proofs.Common.{Logged}
use Rattle.af_fast.specs.contracts.mixer.FastMixer.{the_view}
use Rattle.af_fast.specs.Mixer.{MixerState, IsInOrderAfter, all_entries}
use Rattle.af_fast.proofs.Forgotten.{forgot_order}
use Rattle.af_fast.proofs.mixer.FastMixer.forget.Goals as goal

pub returns-clause-order : goal.returns-clause-order
returns-clause-order c = λ earlier k.
    let m : MixerState = the_view c.self.inside in
    subst (λ (y : MixerState × Logged). IsInOrderAfter (all_entries earlier y.0) (record m { log = y.1 })) (λ i. (c.self.view_is i, sym c.clear.ensures i))
    (forgot_order earlier m (subst (IsInOrderAfter earlier) (sym c.self.view_is) k) (omega (arith, c.if-self-gt-MOST_ENTRIES.false)))
