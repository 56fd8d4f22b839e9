-- What steps that take memory leave behind.
use Rattle.std.specs.Prelude.{◌≡◌, ℕ, List, Result, Ok, Err}
use Rattle.af_script.specs.Ops.{closed}
use Rattle.af_script.specs.declared.op.Op.{Op}
use Rattle.af_script.specs.declared.fault.ReadError.{ReadError}
use Rattle.af_script.specs.declared.fault.ReadError.TheVariants.{Fault, Memory}

-- a copy of a text; only memory may run out
abbrev pub CopiesText : Result (List ℕ) ReadError → List ℕ → Type 0
CopiesText (Ok copy) text = copy ≡ text
CopiesText (Err (Fault fault)) text = ⊥
CopiesText (Err Memory) text = Unit {0}

-- `remove` stands at the end of some ops; only memory may run out
abbrev pub ClosesOps : {X : Type 0} → Result X ReadError → List Op → List Op → Type 0
ClosesOps (Ok done) before now = now ≡ closed before
ClosesOps (Err (Fault fault)) before now = ⊥
ClosesOps (Err Memory) before now = Unit {0}
