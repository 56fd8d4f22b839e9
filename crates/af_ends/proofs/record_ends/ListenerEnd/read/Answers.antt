use Rattle.std.proofs.Common.{ℕ, ◌≤◌, List, length, arith}
use Rattle.af_base.specs.declared.frame.Frame.{Frame}
use Rattle.af_ends.proofs.Parts.{part_kept}
use Rattle.af_ends.proofs.record_ends.ListenerEnd.read.Goals as goal

pub returns-clause-rest : goal.returns-clause-rest
returns-clause-rest c =
    let n : ℕ = c.read_in.result in
    let new : List Frame = c.read_in.new.out in
    let a = c.read_in.ensures.few in
    let b = c.read_in.auto.out in
    let few : n ≤ length new = omega arith in
    part_kept n c.min-most.result new c.args.out.now few a c.read_in.ensures.rest
