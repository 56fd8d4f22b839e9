-- Basic lemmas that several files here, and of the crates above, cite.
use Rattle.std.proofs.Common.{Bool, List, ap, append_assoc, false, pos, sym, true, ℤ, ◌*ℤ◌, ◌++◌, ◌+◌, ◌∙◌, ◌≡◌}
use Rattle.af_gain.proofs.Common.{Take, right_sample, silence}
use Rattle.std.proofs.Math.IntN.{zero-*ℤ}

-- the takes that are heard after one slot more was looked at
pub grown : (here one rest next all : List Take) → here ++ one ≡ next → one ++ rest ≡ all → next ++ rest ≡ here ++ all
grown here one rest next all added then = ap (λ (ts : List Take). ts ++ rest) (sym added) ∙ append_assoc here one rest ∙ ap (λ (ts : List Take). here ++ ts) then

pub silent_right : (mono : Bool) (z : ℤ) → right_sample mono silence *ℤ z ≡ pos 0
silent_right true z = zero-*ℤ z
silent_right false z = zero-*ℤ z
