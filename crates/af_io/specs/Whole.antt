-- Whole reads and writes, over a reader or a writer that may say its bytes.
use Rattle.std.specs.Prelude.{◌≡◌, ℕ, ◌+◌, List, take, Option, IfSome, Result, Ok, Err, OnOk}
use Rattle.std.specs.Io.KnownBytes.{Appends as AppendsKnown}

-- after a whole read: what the reader had left, up to one byte past the limit
abbrev pub ReadsPast : {E : Type 0} → ℕ → Option (List ℕ) → Result (Unit {0}) E → List ℕ → Type 0
ReadsPast limit left result into = OnOk result (IfSome left (λ bytes. into ≡ take (limit + 1) bytes))

-- all bytes were written, or after an error a front of them
abbrev pub WritesFront : {E : Type 0} → Option (List ℕ) → List ℕ → Result (Unit {0}) E → Option (List ℕ) → Type 0
WritesFront held piece (Ok _) now = AppendsKnown held now piece
WritesFront held piece (Err _) now = (count : ℕ) × AppendsKnown held now (take count piece)
