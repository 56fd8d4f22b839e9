use Rattle.std.proofs.Common.{◌≡◌, ℕ, ◌+◌, ◌<◌, suc, length, ap, ◌∙◌, subst, arith}
use Rattle.af_normal.specs.Coming.{Welcomes, WelcomesTo}
use Rattle.af_normal.specs.State.{NormalState}
use Rattle.af_normal.proofs.Welcomed.{welcomed_long, welcomed_slots}
use Rattle.af_normal.proofs.mixer.NormalMixer.welcome_all.Goals as goal

-- the track of this step is one
below : (c : goal.After-welcome) → c.loop-i.i < length c.loop-i.self.tracks
below c =
    let first = ap (λ (m : NormalState). length m.tracks) c.self.view_is in
    let count = c.len-i-end.ensures in
    let on = c.loop-i-test.true in
    let same = c.loop-i.invariant.tracks in
    omega arith

pub loop-i-preserved : goal.loop-i-preserved
loop-i-preserved c =
    let one : Welcomes c.loop-i.i c.loop-i.self c.welcome.new.self = c.welcome.ensures in
    let long = welcomed_long c.loop-i.i c.loop-i.self c.welcome.new.self one in
    let next : suc c.loop-i.i ≡ c.loop-i.i + 1 = omega arith in
    record {
      comes = subst (λ (n : ℕ). WelcomesTo n c.args.self.now c.welcome.new.self) next (c.loop-i.self, c.loop-i.invariant.comes, one);
      tracks = long.0 ∙ c.loop-i.invariant.tracks;
      streams = long.1 ∙ c.loop-i.invariant.streams;
      slots = welcomed_slots c.loop-i.i c.loop-i.self c.welcome.new.self (below c) c.loop-i.invariant.slots one;
    }
