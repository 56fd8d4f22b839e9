use Rattle.std.proofs.Common.{◌≡◌, Some, sym, ap, subst, ◌∙◌}
use Rattle.af_script.proofs.Common.{Members, Option, ok_or, option_map, table_view}
use Rattle.af_script.specs.Tree.{tree_of}
use Rattle.af_script.specs.Results.{Reads, ◌>>=◌}
use Rattle.af_script.specs.Reading.{script_in, script_of}
use Rattle.af_script.specs.declared.fault.ScriptFault.TheVariants as fault
use Rattle.af_script.proofs.Law.{accepted, refused, follows}
use Rattle.af_script.proofs.script.read.Goals as goal

pub returns-in_err-table-clause-accepted : goal.returns-in_err-table-clause-accepted
returns-in_err-table-clause-accepted c script = accepted c.args.bytes.now script

pub returns-in_err-table-clause-refused : goal.returns-in_err-table-clause-refused
returns-in_err-table-clause-refused c found = refused c.args.bytes.now found

pub returns-clause-grammar : goal.returns-clause-grammar
returns-clause-grammar c =
    let document : tree_of c.args.bytes.now ≡ Some (table_view c.in-Some.table) = sym c.in_ok-table.ensures ∙ ap (option_map table_view) c.in-Some.is in
    let same : script_of c.args.bytes.now ≡ script_in (table_view c.in-Some.table) = ap (λ (t : Option Members). ok_or t fault.Toml >>= script_in) document in
    follows c.args.bytes.now c.script_in.result (subst (Reads (λ s. s) c.script_in.result) (sym same) c.script_in.ensures)

pub returns-clause-accepted : goal.returns-clause-accepted
returns-clause-accepted c script = accepted c.args.bytes.now script

pub returns-clause-refused : goal.returns-clause-refused
returns-clause-refused c found = refused c.args.bytes.now found
