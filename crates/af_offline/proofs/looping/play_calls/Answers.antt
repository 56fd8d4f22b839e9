use Rattle.std.proofs.Common.{◌≡◌, ℕ, ◌+◌, ◌<◌, [], ◌∷◌, ◌++◌, is_some, length, sym, ap, subst, ◌∙◌, arith}
use Rattle.af_offline.proofs.Common.{CallsPlay, standing_in}
use Rattle.af_static.specs.InStep.{HandState}
use Rattle.af_offline.proofs.Rolling.{on_again}
use Rattle.af_offline.proofs.looping.play_calls.Goals as goal

pub loop-rolled-preserved : goal.loop-rolled-preserved
loop-rolled-preserved c =
    let invariant = c.loop-rolled.invariant in
    let once = c.in_ok-unrolled.ensures in
    let first : HandState = c.args.hand.now in
    let hand : HandState = c.loop-rolled.hand in
    let after : HandState = c.play_once.new.hand in
    let same : length c.loop-rolled.places ≡ length c.args.places.now = invariant.places in
    let left : c.loop-rolled.rolled.cycles < c.args.calls = grind arith in
    record {
      on = on_again first (length c.args.places.now) c.args.bytes.now.items hand after c.loop-rolled.bytes.items c.play_once.new.bytes.items c.play_once.new.places
          c.loop-rolled.rolled.cycles c.loop-rolled.rolled.filled c.from.result c.loop-rolled.rolled.is_shut c.is_some.result
          invariant.on once.buffer.0 once.setting.0 once.setting.1 once.bytes
          (λ calls played count had. subst (λ (x : ℕ × ℕ). CallsPlay hand.frames (standing_in first) (calls ++ (record { setting = hand.newest; gains = (4096, 4096); places = x.0 }) ∷ []) (played ++ c.play_once.new.places) (count + x.1) (standing_in after))
          (λ i. (same i, sym c.from.ensures i)) (once.played (standing_in first) calls played count had))
          (c.is_some.ensures ∙ ap is_some once.shut);
      places = once.buffer.1 ∙ same;
      most = (let a = left in omega arith);
      few = (let a = invariant.few in let b = c.from.ensures in omega arith);
    }
