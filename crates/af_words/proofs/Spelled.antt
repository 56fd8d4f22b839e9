-- The number that a text spells lies in the range that is asked of it.
use Rattle.std.proofs.Common.{◌≡◌, ℕ, ◌≤◌, ◌&&◌, Bool, true, false, nat_le, List, Some, None, cond, refl, arith}
use Rattle.std.specs.Str.Parse.{digits_value}
use Rattle.std.proofs.lemmas.Bool.{leb-true}
use Rattle.af_script.specs.Text.{within}

in_range : (low high m n : ℕ) (a b : Bool) → nat_le low m ≡ a → nat_le m high ≡ b → Some n ≡ cond (a && b) (Some m) None → (low ≤ n) × (n ≤ high)
in_range low high m n true true e f is = let same : n ≡ m = cc in let g = leb-true low m e in let h = leb-true m high f in (omega arith, omega arith)
in_range low high m n true false e f is = cc
in_range low high m n false b e f is = cc

pub spells : (low high n : ℕ) (text : List ℕ) (t : Bool) → Some n ≡ cond t (within low high (digits_value 10 text)) None → (low ≤ n) × (n ≤ high)
spells low high n text true is = in_range low high (digits_value 10 text) n (nat_le low (digits_value 10 text)) (nat_le (digits_value 10 text) high) refl refl is
spells low high n text false is = cc
