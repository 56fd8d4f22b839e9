-- A turn of the fast mixer ends where it may, by the places of its entries.
use Rattle.std.specs.Prelude.{◌↔◌}
use Rattle.std.proofs.Common.{◌≡◌, ◌⊎◌, inl, inr, ℕ, zero, suc, ◌+◌, ◌-◌, ◌<◌, ◌≤◌, Bool, true, false, List, [], ◌∷◌, length, Option, Some, refl, sym, ap, ◌∙◌, subst, arith}
use Rattle.af_judge.proofs.Common.{AreMixedBut, CycleEntry, EntrySeen, IsFastTurn, entry_at, is_mixed, slice_get, slice_get_cases}
use Rattle.af_judge.specs.FastKept.{EndsAsTurn}

-- each entry but the last is mixed, and of the last this holds
record ByPlace (Last : EntrySeen → Type 0) (es : List EntrySeen) : Type 0 where
  some : 1 ≤ length es
  mixes : (i : ℕ) (e : EntrySeen) → i + 1 < length es → slice_get es i ≡ Some e → is_mixed e.entry.cycle ≡ true
  last : (i : ℕ) (e : EntrySeen) → i + 1 ≡ length es → slice_get es i ≡ Some e → Last e

same_some : (x y : EntrySeen) → ◌≡◌ {A = Option EntrySeen} (Some x) (Some y) → x ≡ y
same_some x y e = cc

first_place : (Last : EntrySeen → Type 0) (x : EntrySeen) → Last x → (i : ℕ) (e : EntrySeen) → i + 1 ≡ 1 → slice_get (x ∷ []) i ≡ Some e → Last e
first_place Last x m zero e end is = subst Last (same_some x e is) m
first_place Last x m (suc i) e end is = absurd (omega (arith, end))

next_mixes : (Last : EntrySeen → Type 0) (x y : EntrySeen) (es : List EntrySeen) → is_mixed x.entry.cycle ≡ true → ByPlace Last (y ∷ es) → (i : ℕ) (e : EntrySeen) → i + 1 < length (x ∷ y ∷ es) → slice_get (x ∷ y ∷ es) i ≡ Some e → is_mixed e.entry.cycle ≡ true
next_mixes Last x y es m rest zero e low is = subst (λ (z : EntrySeen). is_mixed z.entry.cycle ≡ true) (same_some x e is) m
next_mixes Last x y es m rest (suc i) e low is = rest.mixes i e (omega (arith, low)) is

next_last : (Last : EntrySeen → Type 0) (x y : EntrySeen) (es : List EntrySeen) → ByPlace Last (y ∷ es) → (i : ℕ) (e : EntrySeen) → i + 1 ≡ length (x ∷ y ∷ es) → slice_get (x ∷ y ∷ es) i ≡ Some e → Last e
next_last Last x y es rest zero e end is = absurd (omega (arith, end))
next_last Last x y es rest (suc i) e end is = rest.last i e (omega (arith, end)) is

by_place : (Last : EntrySeen → Type 0) (es : List EntrySeen) → AreMixedBut Last es → ByPlace Last es
by_place Last [] m = absurd m
by_place Last (x ∷ []) m = record { some = omega arith; mixes = λ i e low is. absurd (omega (arith, low)); last = first_place Last x m }
by_place Last (x ∷ y ∷ es) m =
    let rest = by_place Last (y ∷ es) m.1 in
    record { some = omega arith; mixes = next_mixes Last x y es m.0 rest; last = next_last Last x y es rest }

of_place : (Last : EntrySeen → Type 0) (es : List EntrySeen) → ByPlace Last es → AreMixedBut Last es
of_place Last [] p = absurd (let h = p.some in omega (arith, h))
of_place Last (x ∷ []) p = p.last 0 x refl refl
of_place Last (x ∷ y ∷ es) p = (
  p.mixes 0 x (omega arith) refl,
  of_place Last (y ∷ es) (record { some = omega arith; mixes = λ i e low is. p.mixes (suc i) e (omega (arith, low)) is; last = λ i e end is. p.last (suc i) e (omega (arith, end)) is }),
)

-- the entries of a round end as a turn exactly if they are a fast turn, if they are the log's from a place on
pub turn_exact : (entries : List CycleEntry) (first cycles : ℕ) (full : Bool) (es : List EntrySeen) → ((i : ℕ) (e : EntrySeen) → slice_get es i ≡ Some e → entry_at entries (first + i) ≡ e.entry)
    → EndsAsTurn entries first (length es) cycles full ↔ IsFastTurn cycles full es
turn_exact entries first cycles full es are = (
  λ h. (
    h.within,
    of_place (λ last. (length es ≡ cycles) ⊎ (is_mixed last.entry.cycle ≡ false) ⊎ (full ≡ true)) es (record {
      some = h.some;
      mixes = λ i e low is. subst (λ (z : CycleEntry). is_mixed z.cycle ≡ true) (are i e is) (h.mixes i (omega (arith, low)));
      last = λ i e end is.
          elim h.ends [
            | inl f ↦ inr (inr f)
            | inr rest ↦ elim rest [
              | inl whole ↦ inl whole
              | inr still ↦
                  inr (inl (let place : length es - 1 ≡ i = omega (arith, end) in subst (λ (z : CycleEntry). is_mixed z.cycle ≡ false) (ap (λ k. entry_at entries (first + k)) place ∙ are i e is) still))
            ]
          ];
    }),
  ),
  λ h.
      (let p = by_place (λ last. (length es ≡ cycles) ⊎ (is_mixed last.entry.cycle ≡ false) ⊎ (full ≡ true)) es h.1 in
      let some = p.some in
      record {
        some = p.some;
        within = h.0;
        mixes = λ i low.
            elim (slice_get_cases es i).1 [
              | inl there ↦ subst (λ (z : CycleEntry). is_mixed z.cycle ≡ true) (sym (are i there.0 there.2)) (p.mixes i there.0 (omega (arith, low)) there.2)
              | inr past ↦ absurd (omega (arith, low, past.0))
            ];
        ends = elim (slice_get_cases es (length es - 1)).1 [
          | inl there ↦ elim (p.last (length es - 1) there.0 (omega (arith, some)) there.2) [
            | inl whole ↦ inr (inl whole)
            | inr rest ↦ elim rest [
              | inl still ↦ inr (inr (subst (λ (z : CycleEntry). is_mixed z.cycle ≡ false) (sym (are (length es - 1) there.0 there.2)) still))
              | inr f ↦ inl f
            ]
          ]
          | inr past ↦ absurd (omega (arith, some, past.0))
        ];
      }),
)
