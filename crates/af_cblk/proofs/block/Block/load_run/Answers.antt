use Rattle.std.proofs.Common.{arith, ◌≡◌, ◌+◌, ◌-◌, ℕ, length, ap}
use Rattle.af_cblk.specs.Sides.{Made}
use Rattle.af_cblk.proofs.Runs.{runs_join, run_follows}
use Rattle.af_cblk.proofs.block.Block.load_run.Goals as goal

pub loop-into-preserved : goal.loop-into-preserved
loop-into-preserved g c =
    let i = c.loop-into.invariant in
    let done : ℕ = c.loop-into.done in
    let long : length c.load_few.new.into ≡ 8 = omega arith in (
      runs_join c.args.pass.now c.loop-into.pass c.load_few.new.pass c.loop-into.into c.load_few.new.into done 8 (done + 8 - done) i.0 c.load_few.ensures.saw long i.2,
      omega arith,
      omega arith,
    )

pub load_few-requires-clause-next : goal.load_few-requires-clause-next
load_few-requires-clause-next g c =
    let i = c.loop-into.invariant in
    run_follows c.args.self.now.shape c.args.pass.now c.loop-into.pass c.loop-into.into c.loop-into.done c.args.first c.requires.shape (ap (λ (m : Made). m.shape) c.requires.made) i.0 c.requires.next i.2 (omega (arith, c.requires.within, c.loop-into.auto.into))

pub load_few-requires-then-done-into-clause-next : goal.load_few-requires-then-done-into-clause-next
load_few-requires-then-done-into-clause-next g c =
    let i = c.loop-into.invariant in
    run_follows c.args.self.now.shape c.args.pass.now c.loop-into.pass c.loop-into.into c.loop-into.done c.args.first c.requires.shape (ap (λ (m : Made). m.shape) c.requires.made) i.0 c.requires.next i.2 (omega (arith, c.requires.within, c.loop-into.auto.into))
