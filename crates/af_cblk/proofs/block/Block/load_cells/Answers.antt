use Rattle.std.proofs.Common.{arith, ◌≡◌, ◌+◌, ◌-◌, ℕ, length}
use Rattle.af_cblk.proofs.Runs.{runs_join}
use Rattle.af_cblk.proofs.block.Block.load_cells.Goals as goal

pub loop-done-preserved : goal.loop-done-preserved
loop-done-preserved g c =
    let i = c.loop-done.invariant in
    let e = c.load_run.ensures in
    let done : ℕ = c.loop-done.done in
    let count : ℕ = c.min-count.result in
    let long : length c.load_run.new.into ≡ count = omega arith in (
      runs_join c.args.pass.now c.loop-done.pass c.load_run.new.pass c.loop-done.into c.load_run.new.into done count (done + count - done) i.0 e.saw long i.2,
      omega arith,
      omega arith,
    )
