use Rattle.std.proofs.Common.{◌≡◌, ◌++◌, take, codes, string_bytes}
use Rattle.af_script.proofs.Common.{flat_map}
use Rattle.af_script.specs.Printing.{op_text, quoted}
use Rattle.af_script.proofs.printing.add_op_array.Given as goal

abbrev pub invariant-loop-op : goal.invariant-loop-op
invariant-loop-op l = string_bytes l.text ≡ string_bytes l.initial.text ++ flat_map (λ op. codes ", " ++ quoted (op_text op)) (take l.op-index l.rest)
