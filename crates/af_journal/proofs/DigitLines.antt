-- A line of digits ends at the first byte that is none.
use Rattle.std.proofs.Common.{◌≡◌, ℕ, ◌==◌, Bool, true, false, cond, List, [], ◌∷◌, ◌++◌, Option, Some, refl, ap, ◌∙◌, subst}
use Rattle.af_journal.proofs.Common.{both, eqb-true, list_all}
use Rattle.af_journal.specs.Hexadecimal.{is_hex}
use Rattle.af_journal.specs.LineReading.{◌>>=◌}
use Rattle.af_journal.specs.Readings.{cut}

-- a digit is no LF
hex-no-lf : (c : ℕ) → is_hex c ≡ true → (c == 10) ≡ false
hex-no-lf c is = by (c == 10) refl where
  by : (b : Bool) → (c == 10) ≡ b → b ≡ false
  by false e = refl
  by true e = absurd (let h : is_hex 10 ≡ true = subst (λ n. is_hex n ≡ true) (eqb-true c 10 e) is in let x : ⊥ = cc in x)

-- digits before an LF are what stands before it
pub cut-digits : (digits rest : List ℕ) → list_all is_hex digits ≡ true → cut (digits ++ 10 ∷ rest) ≡ Some (digits, rest)
cut-digits [] rest all = refl
cut-digits (c ∷ cs) rest all =
    let b = both (is_hex c) (list_all is_hex cs) all in
    ap (λ t. cond t (Some ([], cs ++ 10 ∷ rest)) (cut (cs ++ 10 ∷ rest) >>= λ r. Some (c ∷ r.0, r.1))) (hex-no-lf c b.0)
    ∙ ap (λ (o : Option (List ℕ × List ℕ)). o >>= λ r. Some (c ∷ r.0, r.1)) (cut-digits cs rest b.1)

-- one byte more in front
abbrev after_byte : ℕ → Option (List ℕ × List ℕ) → Option (List ℕ × List ℕ)
after_byte c o = o >>= λ r. Some (c ∷ r.0, r.1)

-- the same behind the mark of a line of frames and a space
pub cut-frames : (bytes rest digits after : List ℕ) → rest ≡ digits ++ 10 ∷ after → list_all is_hex digits ≡ true → bytes ≡ 104 ∷ 32 ∷ rest → cut bytes ≡ Some (104 ∷ 32 ∷ digits, after)
cut-frames bytes rest digits after line all is = ap cut (is ∙ ap (λ (l : List ℕ). 104 ∷ 32 ∷ l) line) ∙ ap (λ (o : Option (List ℕ × List ℕ)). after_byte 104 (after_byte 32 o)) (cut-digits digits after all)
