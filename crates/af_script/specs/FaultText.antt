-- The texts of faults, after the word `script: ` of their line.
use Rattle.std.specs.Prelude.{ℕ, List, ◌++◌, codes, decimal}
use Rattle.std.specs.Fmt.{signed_decimal}
use Rattle.af_script.specs.Tree.{key_text}
use Rattle.af_script.specs.declared.fault.ScriptFault.{ScriptFault}
use Rattle.af_script.specs.declared.fault.ScriptFault.TheVariants.{Toml, Unknown, Key, Range, Op, Turn, Limit}
use Rattle.af_script.specs.declared.fault.LimitId.{LimitId}
use Rattle.af_script.specs.declared.fault.LimitId.TheVariants as limit

-- the text of a limit
abbrev pub limit_text : LimitId → List ℕ
limit_text limit.Product = codes "product"
limit_text limit.Ops = codes "ops"
limit_text limit.Turns = codes "turns"
limit_text limit.Asked = codes "asked"

-- the text of a fault
abbrev pub fault_text : ScriptFault → List ℕ
fault_text Toml = codes "toml"
fault_text (Unknown table) = codes "unknown " ++ decimal table
fault_text (Key table id) = codes "key " ++ (decimal table ++ (codes " " ++ key_text id))
fault_text (Range table id value) = codes "range " ++ (decimal table ++ (codes " " ++ (key_text id ++ (codes " " ++ signed_decimal value))))
fault_text (Op track index) = codes "op " ++ (decimal track ++ (codes " " ++ decimal index))
fault_text (Turn index) = codes "turn " ++ decimal index
fault_text (Limit id value) = codes "limit " ++ (limit_text id ++ (codes " " ++ decimal value))
