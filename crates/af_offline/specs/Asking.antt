-- What a command makes, as the definitions have it.
use Rattle.std.specs.Prelude.{ℕ, List, [], string_bytes}
use Rattle.af_offline.specs.declared.outputs.Output.{Output}
use Rattle.af_offline.specs.Asked.{Exact, Job}

-- what is made, for an output of this name
abbrev pub output_job : List ℕ → Output → Job
output_job target output = record { first = []; target = target; work = Exact output.bytes.items (string_bytes output.line) }
