-- A client as the program keeps it, with the place of its next op.
use Rattle.std.specs.Prelude.{◌≡◌, ℕ, Bool, List, [], ◌∷◌, drop}
use Rattle.af_script.specs.declared.op.Op.{Op}
use Rattle.af_runs.specs.declared.want.Mode.{Mode}
use Rattle.af_runs.specs.declared.want.Want.{Want}
use Rattle.af_runs.specs.declared.want.Want.TheVariants as want
use Rattle.af_runs.specs.Clients.{Client}

pub record ClientKept : Type 0 where
  pub due : List Want
  pub at : ℕ
  pub mode : Mode
  pub waiting : Bool
  pub ended : Bool

-- the client by its ops
abbrev pub client_of : List Op → ClientKept → Client
client_of ops c = record { due = c.due; ops = drop c.at ops; mode = c.mode; waiting = c.waiting; ended = c.ended }

-- nothing is wanted after a write
abbrev pub WritesLast : List Want → Type 0
WritesLast (want.Write count ∷ wants) = wants ≡ []
WritesLast _ = Unit {0}
