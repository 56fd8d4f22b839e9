use Rattle.std.proofs.Common.{arith, ◌≡◌, ◌<◌, ◌+◌, length, ap}
use Rattle.af_cblk.specs.Sides.{Made}
use Rattle.af_cblk.proofs.Runs.{run_on}
use Rattle.af_cblk.proofs.block.Block.load_few.Goals as goal

pub loop-i-preserved : goal.loop-i-preserved
loop-i-preserved g c =
    let i = c.loop-i.invariant in
    let e = c.load_word-word.ensures in
    let u = c.unpack.ensures in
    let need = c.requires in
    let same : c.args.pass.now.part.shape ≡ c.args.self.now.shape = ap (λ (m : Made). m.shape) need.made in
    let here : c.loop-i.i < length c.loop-i.into = (let a = c.loop-i-test.true in let b = c.loop-i.auto.into in omega arith) in
    let inside : c.args.first + c.loop-i.i < 7 + c.args.self.now.shape.cells = (let a = need.within in let b = c.loop-i.auto.into in omega arith) in (
      run_on c.args.self.now.shape c.args.pass.now c.loop-i.pass c.load_word-word.new.pass c.loop-i.into c.loop-i.i c.args.first c.load_word-word.result c.unpack.result need.shape same i.0 here need.next inside u.packed e.saw,
      (let a = e.steps in let b = i.1 in omega arith),
    )
