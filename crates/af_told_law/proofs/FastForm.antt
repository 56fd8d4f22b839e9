-- The entries of a fast turn: each but the last is Mixed, and there are as many as were asked for, or the last isn't Mixed.
use Rattle.std.proofs.Common.{◌≡◌, ◌⊎◌, inl, inr, ℕ, zero, suc, ◌+◌, ◌≤◌, Bool, true, false, List, [], ◌∷◌, drop, length, refl, ap, arith}
use Rattle.af_told_law.proofs.Common.{AreMixedBut, CycleEntry, EntrySeen, Frame, entries_seen, is_mixed, taken_by}
use Rattle.af_runs.specs.Rounds.{IsFastTurn}

-- so many entries, or fewer if one isn't Mixed: it is the last
abbrev pub AreTurn : {X : Type 0} → (X → Bool) → ℕ → List X → Type 0
AreTurn mixed zero es = es ≡ []
AreTurn mixed (suc left) [] = ⊥
AreTurn mixed (suc left) (e ∷ es) = (mixed e ≡ true → AreTurn mixed left es) × (mixed e ≡ false → es ≡ [])

abbrev pub mixes : EntrySeen → Bool
mixes e = is_mixed e.entry.cycle

abbrev pub mixed_entry : CycleEntry → Bool
mixed_entry e = is_mixed e.cycle

few_entries : (count : ℕ) (es : List EntrySeen) → AreTurn mixes count es → length es ≤ count
few_entries zero es h = let n : length es ≡ 0 = ap (λ (l : List EntrySeen). length l) h in omega (arith, n)
few_entries (suc left) [] h = omega arith
few_entries (suc left) (e ∷ es) h = by_mix (mixes e) refl (λ more. few_entries left es more)
  where
    by_mix : (b : Bool) → mixes e ≡ b → (AreTurn mixes left es → length es ≤ left) → length (e ∷ es) ≤ suc left
    by_mix true is then = let l = then (h.0 is) in omega (arith, l)
    by_mix false is then = let n : length es ≡ 0 = ap (λ (l : List EntrySeen). length l) (h.1 is) in omega (arith, n)

module _ (cycles total : ℕ) where
  abbrev Last : EntrySeen → Type 0
  Last e = (total ≡ cycles) ⊎ (is_mixed e.entry.cycle ≡ false) ⊎ (false ≡ true)

  last_is : (done left : ℕ) (e : EntrySeen) → done + suc left ≡ cycles → total ≡ done + 1 → (b : Bool) → mixes e ≡ b → (mixes e ≡ true → AreTurn mixes left []) → Last e
  last_is done zero e sum many true is on = inl (omega (arith, sum, many))
  last_is done (suc left) e sum many true is on = absurd (on is)
  last_is done left e sum many false is on = inr (inl is)

  form_by : (done left : ℕ) (es : List EntrySeen) → done + left ≡ cycles → total ≡ done + length es → 1 ≤ left → AreTurn mixes left es → AreMixedBut Last es
  form_by done zero es sum many some h = absurd (omega (arith, some))
  form_by done (suc left) [] sum many some h = h
  form_by done (suc left) (e ∷ []) sum many some h = last_is done left e sum (omega (arith, many)) (mixes e) refl h.0
  form_by done (suc left) (e ∷ next ∷ es) sum many some h =
      by_mix (mixes e) refl (λ more. form_by (done + 1) left (next ∷ es) (omega (arith, sum)) (omega (arith, many)) (let l = few_entries left (next ∷ es) more in omega (arith, l)) more)
    where
      by_mix : (b : Bool) → mixes e ≡ b → (AreTurn mixes left (next ∷ es) → AreMixedBut Last (next ∷ es)) → (mixes e ≡ true) × AreMixedBut Last (next ∷ es)
      by_mix true is then = (is, then (h.0 is))
      by_mix false is then = let n : length (next ∷ es) ≡ 0 = ap (λ (l : List EntrySeen). length l) (h.1 is) in absurd (omega (arith, n))

-- such entries are those of a turn
turn_form : (cycles : ℕ) (es : List EntrySeen) → 1 ≤ cycles → AreTurn mixes cycles es → IsFastTurn cycles false es
turn_form cycles es some h = (few_entries cycles es h, form_by cycles (length es) 0 cycles es (omega arith) (omega arith) some h)

-- the entries of the log, with their frames, are those of a turn
turn_seen : (count : ℕ) (frames : List Frame) (es : List CycleEntry) → AreTurn mixed_entry count es → AreTurn mixes count (entries_seen frames es)
turn_seen zero frames es h = ap (entries_seen frames) h
turn_seen (suc left) frames [] h = h
turn_seen (suc left) frames (e ∷ es) h = ((λ is. turn_seen left (drop (taken_by e) frames) es (h.0 is)), (λ is. ap (entries_seen (drop (taken_by e) frames)) (h.1 is)))

pub form_seen : (count : ℕ) (frames : List Frame) (es : List CycleEntry) → 1 ≤ count → AreTurn mixed_entry count es → IsFastTurn count false (entries_seen frames es)
form_seen count frames es some h = turn_form count (entries_seen frames es) some (turn_seen count frames es h)
