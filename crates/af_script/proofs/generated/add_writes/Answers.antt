use Rattle.std.proofs.Common.{◌≡◌, List, [], ◌∷◌, ◌++◌, ap, sym, ◌∙◌, append_assoc, append-nil, rules}
use Rattle.af_script.specs.Generated.{repeated}
use Rattle.af_script.specs.declared.op.Op.{Op}
use Rattle.af_script.specs.declared.op.Op.TheVariants.{Write}
use Rattle.af_script.proofs.GeneratedScript.{repeated_next}
use Rattle.af_script.proofs.generated.add_writes.Goals as goal

pub loop-write-init : goal.loop-write-init
unfolding repeated
loop-write-init c = sym (append-nil c.args.ops.now.items)

pub loop-write-preserved : goal.loop-write-preserved
loop-write-preserved c = let old : List Op = c.args.ops.now.items in let i = c.loop-write._write in let write : List Op = Write 500 ∷ [] in
    let added : c.push.new.self.items ≡ c.loop-write.ops.items ++ write = search rules in
    added
    ∙ ap (λ (ops : List Op). ops ++ write) c.loop-write.invariant
    ∙ append_assoc old (repeated i write) write
    ∙ ap (λ (ops : List Op). old ++ ops) (sym (repeated_next i write))
