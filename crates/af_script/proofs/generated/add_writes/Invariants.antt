use Rattle.std.proofs.Common.{◌≡◌, ◌∷◌, [], ◌++◌}
use Rattle.af_script.specs.Generated.{repeated}
use Rattle.af_script.specs.declared.op.Op.TheVariants.{Write}
use Rattle.af_script.proofs.generated.add_writes.Given as goal

abbrev pub invariant-loop-write : goal.invariant-loop-write
invariant-loop-write l = l.ops.items ≡ l.fn.ops.items ++ repeated l._write (Write 500 ∷ [])
