use Rattle.std.proofs.Common.{ℕ, ◌≤◌, sym, subst}
use Rattle.af_engine.specs.Shares.{SharedState, AreLinksOf}
use Rattle.af_fast.specs.Mixer.{MixerState, IsLinked}
use Rattle.af_mixer_ends.proofs.GoesOn.{goes_on}
use Rattle.af_mixer_ends.proofs.fast_end.FastEnd.cycle.Goals as goal

pub cycle_in-requires-clause-linked : goal.cycle_in-requires-clause-linked
cycle_in-requires-clause-linked c =
    let links = c.links-links.result in
    let before = c.self.invariant.linked links (subst (λ (s : SharedState). AreLinksOf s links) c.deref.ensures c.links-links.ensures) in
    subst (λ (x : MixerState). IsLinked links x) (sym c.make_room.ensures.same) before

pub returns-clause-goes_on : goal.returns-clause-goes_on
returns-clause-goes_on c =
    let m = c.self.inside.mixer in
    let some : 1 ≤ m.cycles = subst (λ (n : ℕ). 1 ≤ n) (sym c.self.invariant.sizes.1) c.self.invariant.some in
    goes_on m c.make_room.new.mixer c.cycle_in.new.mixer c.args.out.now c.cycle_in.new.out c.cycle_in.result some c.if-not-make_room.ensures.room c.make_room.ensures.order c.cycle_in.ensures.cycles
