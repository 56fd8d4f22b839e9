use Rattle.std.proofs.Common.{◌≡◌, ◌<◌, ℕ, length, subst, arith}
use Rattle.af_static.specs.Loops.{head_moved, loop_frames, output}
use Rattle.af_static.proofs.Rows.{begins}
use Rattle.af_static.proofs.playing.play.Goals as goal

pub loop-at-init : goal.loop-at-init
loop-at-init c = record {
  sound = c.requires.sound;
  played = begins c.args.frames.now c.args.gains c.args.head.now (length c.args.out.now) c.args.out.now;
}

pub returns-clause-out : goal.returns-clause-out
returns-clause-out c =
    let same : length c.loop-at.out ≡ length c.args.out.now = omega arith in
    subst (λ (n : ℕ). c.finish.new.out ≡ output c.args.gains (loop_frames c.args.frames.now c.args.head.now n) n) same (c.finish.ensures c.args.head.now c.loop-at.invariant.played).out

pub returns-clause-filled : goal.returns-clause-filled
returns-clause-filled c =
    let same : length c.loop-at.out ≡ length c.args.out.now = omega arith in
    subst (λ (n : ℕ). c.loop-at.at ≡ length (loop_frames c.args.frames.now c.args.head.now n)) same (c.finish.ensures c.args.head.now c.loop-at.invariant.played).filled

pub returns-clause-head : goal.returns-clause-head
returns-clause-head c =
    let same : length c.loop-at.out ≡ length c.args.out.now = omega arith in
    subst (λ (n : ℕ). c.loop-at.head ≡ head_moved (length c.args.frames.now) c.args.head.now n) same (c.finish.ensures c.args.head.now c.loop-at.invariant.played).head

pub returns-clause-short : goal.returns-clause-short
returns-clause-short c less =
    let same : length c.loop-at.out ≡ length c.args.out.now = omega arith in
    let lower : c.loop-at.at < length c.loop-at.out = omega arith in
    let past = (c.finish.ensures c.args.head.now c.loop-at.invariant.played).short lower in
    let inside = c.loop-at.invariant.sound.inside in
    omega arith
