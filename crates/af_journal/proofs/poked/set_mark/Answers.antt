use Rattle.std.proofs.Common.{◌≡◌, ◌⊎◌, inl, inr, ℕ, ◌<◌, ◌≤◌, ◌==◌, ◌||◌, Bool, true, false, List, length, slice_index_or, slice_set, refl, ap, ◌∙◌, sym, arith}
use Rattle.af_journal.proofs.Common.{cases_eq, eq-eqb, get_or-set_other, get_or-set_same, ne_eqb, or_false}

-- the marks after one is set, if it is there
set-one : (marks : List Bool) (at other : ℕ) → at < length marks → slice_index_or (slice_set marks at true) other false ≡ (slice_index_or marks other false || (at == other))
set-one marks at other lt = by_place (cases_eq at other)
  where
    or_true : (x : Bool) → true ≡ (x || true)
    or_true true = refl
    or_true false = refl

    by_place : (at ≡ other) ⊎ (at ≡ other → ⊥) → slice_index_or (slice_set marks at true) other false ≡ (slice_index_or marks other false || (at == other))
    by_place (inl same) =
        ap (λ k. slice_index_or (slice_set marks at true) k false) (sym same) ∙ get_or-set_same marks at true false lt ∙ or_true (slice_index_or marks other false)
        ∙ ap (λ b. slice_index_or marks other false || b) (sym (eq-eqb at other same))
    by_place (inr apart) =
        get_or-set_other marks at other true false (λ e. apart (sym e)) ∙ sym (or_false (slice_index_or marks other false))
        ∙ ap (λ b. slice_index_or marks other false || b) (sym (ne_eqb at other apart))

-- the marks, if it isn't
set-none : (marks : List Bool) (at other : ℕ) → length marks ≤ at → other < length marks → slice_index_or marks other false ≡ (slice_index_or marks other false || (at == other))
set-none marks at other high lt = sym (or_false (slice_index_or marks other false)) ∙ ap (λ b. slice_index_or marks other false || b) (sym (ne_eqb at other (λ e. omega (arith, high, lt, e))))
