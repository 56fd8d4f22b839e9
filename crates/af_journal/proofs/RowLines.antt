-- Lines that are written from their end to their beginning.
use Rattle.std.specs.Prelude.{decimal}
use Rattle.std.proofs.Common.{◌≡◌, ℕ, ◌+◌, ◌-◌, ◌<◌, List, [], ◌∷◌, ◌++◌, map, sym, ap, ◌∙◌, append_assoc, append-nil}
use Rattle.af_journal.proofs.Common.{Seen, flat_map, join_with_byte}
use Rattle.af_journal.specs.Lines.{looked, marked, seen_text, with_lf}

-- numbers, with a space before each
abbrev pub after_spaces : List ℕ → List ℕ
after_spaces ns = flat_map (λ n. 32 ∷ decimal n) ns

join-is : (x : List ℕ) (ns : List ℕ) → join_with_byte 32 (x ∷ map decimal ns) ≡ x ++ after_spaces ns
join-is x [] = sym (append-nil x)
join-is x (n ∷ ns) = ap (λ (l : List ℕ). x ++ 32 ∷ l) (join-is (decimal n) ns)

-- a line of a mark and numbers
pub marked-is : (mark : ℕ) (ns : List ℕ) → mark ∷ after_spaces ns ++ 10 ∷ [] ≡ with_lf (marked (mark ∷ []) ns)
marked-is mark ns = ap (λ (l : List ℕ). l ++ 10 ∷ []) (sym (join-is (mark ∷ []) ns))

-- a line of a mark, numbers and what a look showed
pub looked-is : (mark : ℕ) (ns : List ℕ) (answer : Seen) → mark ∷ (after_spaces ns ++ (32 ∷ seen_text answer ++ 10 ∷ [])) ≡ with_lf (looked (mark ∷ []) ns answer)
looked-is mark ns answer =
    sym (append_assoc (mark ∷ after_spaces ns) (32 ∷ seen_text answer) (10 ∷ [])) ∙ ap (λ (l : List ℕ). (l ++ 32 ∷ seen_text answer) ++ 10 ∷ []) (sym (join-is (mark ∷ []) ns))
