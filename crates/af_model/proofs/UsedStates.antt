-- The states that the entries of a log used, as entries and states are added.
use Rattle.std.proofs.Common.{◌≡◌, ℕ, ◌+◌, ◌≤◌, ◌||◌, Bool, false, if◌then◌else◌, fold, Option, List, [], ◌∷◌, ◌++◌, length, refl, ap, ◌∙◌, arith}
use Rattle.af_model.proofs.Common.{CycleEntry, FastState, fold-append}
use Rattle.af_model.proofs.Basics.{same_before}
use Rattle.af_model.specs.Cycles.{state_of, last_used, has_exit, is_exit, is_cold, cold_of, cold_done, UseUpTo}

pub last_used-push : (es : List CycleEntry) (e : CycleEntry) → last_used (es ++ e ∷ []) ≡ e.state
last_used-push es e = fold-append (λ (number : ℕ) (entry : CycleEntry). entry.state) 0 es (e ∷ [])

pub has_exit-push : (es : List CycleEntry) (e : CycleEntry) → has_exit (es ++ e ∷ []) ≡ (has_exit es || is_exit e.cycle)
has_exit-push es e = fold-append (λ (found : Bool) (entry : CycleEntry). found || is_exit entry.cycle) false es (e ∷ [])

pub cold_done-push : (states : List FastState) (es : List CycleEntry) (e : CycleEntry) → cold_done states (es ++ e ∷ []) ≡ (if is_cold e.cycle then cold_of (state_of states e.state) else cold_done states es)
cold_done-push states es e = fold-append (λ (done : ℕ) (entry : CycleEntry). if is_cold entry.cycle then cold_of (state_of states entry.state) else done) 0 es (e ∷ [])

module _ (xs : List FastState) (x : FastState) where
  abbrev performed : List FastState → ℕ → CycleEntry → ℕ
  performed states done entry = if is_cold entry.cycle then cold_of (state_of states entry.state) else done

  -- a further state changes nothing of what was performed
  cold-before : (done : ℕ) (es : List CycleEntry) → UseUpTo (length xs) es → fold (performed (xs ++ x ∷ [])) done es ≡ fold (performed xs) done es
  cold-before done [] up = refl
  cold-before done (e ∷ es) up =
      ap (λ (d : ℕ). fold (performed (xs ++ x ∷ [])) d es) (ap (λ (o : Option FastState). if is_cold e.cycle then cold_of o else done) (same_before xs x e.state up.0))
      ∙ cold-before (performed xs done e) es up.1

  pub cold_done-before : (es : List CycleEntry) → UseUpTo (length xs) es → cold_done (xs ++ x ∷ []) es ≡ cold_done xs es
  cold_done-before es up = cold-before 0 es up

pub UseUpTo-push : (n : ℕ) (es : List CycleEntry) (e : CycleEntry) → UseUpTo n es → e.state ≤ n → UseUpTo n (es ++ e ∷ [])
UseUpTo-push n [] e up here = (here, tt)
UseUpTo-push n (d ∷ es) e up here = (up.0, UseUpTo-push n es e up.1 here)

pub UseUpTo-more : (n m : ℕ) (es : List CycleEntry) → n ≤ m → UseUpTo n es → UseUpTo m es
UseUpTo-more n m [] more up = tt
UseUpTo-more n m (e ∷ es) more up = (omega (arith, up.0), UseUpTo-more n m es more up.1)
