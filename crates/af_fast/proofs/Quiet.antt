-- The slots behind the last one of a state's mask: none has a track.
use Rattle.std.proofs.Common.{◌≡◌, inl, inr, ℕ, zero, suc, ◌+◌, ◌^◌, ◌≤◌, ◌<◌, ◌==◌, ◌&&◌, not, ne_eqb, Bool, false, if◌then◌else◌, List, slice_index_or, sym, ap, ◌∙◌, arith}
use Rattle.af_fast.proofs.Common.{FastState, IsState, and_false, bit_at, bit_or, carries, cases_lt, mix_scale, mono_marks, or_zero_r, slot_of, slots, tracks_below}
use Rattle.af_fast.specs.Slots.{IsQuietFrom}

-- no slot behind a mask has a track
pub quiet_from : (x : FastState) (used : ℕ) → ((i : ℕ) → used ≤ i → bit_at x.mask i ≡ 0) → IsQuietFrom x used
quiet_from x used clear i le = ap (λ (n : ℕ). not (i == 0) && (n == 1)) (clear i le) ∙ and_false (not (i == 0))

-- the submix stands in every mask
pub some_used : (x : FastState) (used : ℕ) → IsState x → ((i : ℕ) → used ≤ i → bit_at x.mask i ≡ 0) → 1 ≤ used
some_used x zero state clear = let none : 1 ≡ 0 = sym state.submix ∙ clear 0 (omega arith) in absurd (omega (arith, none))
some_used x (suc n) state clear = omega arith

-- slots with no track add no mark
pub marks_stay : (x : FastState) (n i : ℕ) → IsQuietFrom x i → mono_marks x (i + n) ≡ mono_marks x i
marks_stay x zero i quiet = ap (mono_marks x) (let e : i + 0 ≡ i = omega arith in e)
marks_stay x (suc n) i quiet =
    ap (mono_marks x) (let e : i + suc n ≡ suc (i + n) = omega arith in e)
    ∙ ap (λ (b : Bool). bit_or (mono_marks x (i + n)) (if b && (slot_of x (i + n)).mono then 2 ^ (i + n) else 0)) (quiet (i + n) (omega arith))
    ∙ or_zero_r (mono_marks x (i + n))
    ∙ marks_stay x n i quiet

-- slots with no track are no tracks
pub tracks_stay : (x : FastState) (n i : ℕ) → IsQuietFrom x i → tracks_below x (i + n) ≡ tracks_below x i
tracks_stay x zero i quiet = ap (tracks_below x) (let e : i + 0 ≡ i = omega arith in e)
tracks_stay x (suc n) i quiet =
    ap (tracks_below x) (let e : i + suc n ≡ suc (i + n) = omega arith in e)
    ∙ ap (λ (b : Bool). tracks_below x (i + n) + (if b then 1 else 0)) (quiet (i + n) (omega arith))
    ∙ (let e : tracks_below x (i + n) + 0 ≡ tracks_below x (i + n) = omega arith in e)
    ∙ tracks_stay x n i quiet

-- a slot with no track has no scale
scale_none : (x : FastState) (i : ℕ) → 1 ≤ i → carries x i ≡ false → mix_scale x i ≡ 0
scale_none x i low off =
    ap (λ (b : Bool). if b then 4096 else if carries x i then (slot_of x i).scale else 0) (ne_eqb i 0 (λ e. omega (arith, low, e)))
    ∙ ap (λ (b : Bool). if b then (slot_of x i).scale else 0) off

-- all scales are those of the state, if the first ones are, and the others are 0 and of slots with no track
pub scales_all : (x : FastState) (scales : List ℕ) (i : ℕ) → 1 ≤ i → IsQuietFrom x i → ((j : ℕ) → j < i → slice_index_or scales j 0 ≡ mix_scale x j) → ((j : ℕ) → i ≤ j → j < slots → slice_index_or scales j 0 ≡ 0) → (j : ℕ) → j < slots → slice_index_or scales j 0 ≡ mix_scale x j
scales_all x scales i low quiet marked unmarked j lt = elim (cases_lt j i) [ inl less ↦ marked j less | inr le ↦ unmarked j le lt ∙ sym (scale_none x j (omega (arith, le, low)) (quiet j le)) ]
