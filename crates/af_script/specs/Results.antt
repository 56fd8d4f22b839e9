-- Answers of steps that find the first fault, if memory may run out.
use Rattle.std.specs.Prelude.{◌≡◌, Result, Ok, Err}
use Rattle.af_script.specs.declared.fault.ScriptFault.{ScriptFault}
use Rattle.af_script.specs.declared.fault.ReadError.{ReadError}
use Rattle.af_script.specs.declared.fault.ReadError.TheVariants.{Fault, Memory}

-- one step and then another, up to the first fault
infixl 10 ◌>>=◌
abbrev pub ◌>>=◌ : {X Y : Type 0} → Result X ScriptFault → (X → Result Y ScriptFault) → Result Y ScriptFault
Ok x >>= next = next x
Err fault >>= next = Err fault

-- an answer that memory can't keep away
abbrev pub Finds : {X Y : Type 0} → (X → Y) → Result X ScriptFault → Result Y ScriptFault → Type 0
Finds view (Ok x) told = told ≡ Ok (view x)
Finds view (Err fault) told = told ≡ Err fault

-- the answer is the one that the definition gives, but that memory may run out
abbrev pub Reads : {X Y : Type 0} → (X → Y) → Result X ReadError → Result Y ScriptFault → Type 0
Reads view (Ok x) told = told ≡ Ok (view x)
Reads view (Err (Fault fault)) told = told ≡ Err fault
Reads view (Err Memory) told = Unit {0}
