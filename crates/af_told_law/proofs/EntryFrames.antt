-- The frames that the slots of an entry took are those by which the journal tells it.
use Rattle.std.proofs.Common.{◌≡◌, ◌⊎◌, inl, inr, ℕ, ◌+◌, ◌-◌, ◌<◌, ◌≤◌, Bool, if◌then◌else◌, take, drop, List, sym, ap, ◌∙◌, arith}
use Rattle.af_told_law.proofs.Common.{CycleEntry, Frame, cases_eq, count_seen, drop-drop, drop-take, entry_slot, frames_taken, ne_eqb, place_of, slot_frames, slots, take-take, taken_before, taken_by, taken_up}
use Rattle.af_told_law.specs.MixLaws.{entry_told}

module _ (frames : List Frame) (entry : CycleEntry) (place i : ℕ) (first : (entry_slot entry i).first ≡ place_of (place + taken_before entry i) (entry_slot entry i).seen) where
  abbrev count : ℕ
  count = count_seen (entry_slot entry i).seen

  abbrev before : ℕ
  before = taken_before entry i

  in_place : (all : ℕ) → before + count ≤ all → (count ≡ 0) ⊎ (count ≡ 0 → ⊥) → take count (drop (entry_slot entry i).first frames) ≡ take count (drop before (take all (drop place frames)))
  in_place all up (inl none) = ap (λ (n : ℕ). take n (drop (entry_slot entry i).first frames)) none ∙ sym (ap (λ (n : ℕ). take n (drop before (take all (drop place frames)))) none)
  in_place all up (inr some) =
      let rest : ℕ = all - before in
      let whole : all ≡ before + rest = omega (arith, up) in
      let fits : count ≤ rest = omega (arith, up) in
      let at_place : (entry_slot entry i).first ≡ place + before = first ∙ ap (λ (b : Bool). if b then 0 else place + before) (ne_eqb count 0 some) in
      ap (λ (n : ℕ). take count (drop n frames)) at_place
      ∙ ap (take count) (sym (drop-drop before place frames))
      ∙ sym (take-take count rest (drop before (drop place frames)) fits)
      ∙ ap (take count) (sym (drop-take before rest (drop place frames)))
      ∙ ap (λ (n : ℕ). take count (drop before (take n (drop place frames)))) (sym whole)

pub frames_told : (frames : List Frame) (entry : CycleEntry) (place i : ℕ) → i < slots → (entry_slot entry i).first ≡ place_of (place + taken_before entry i) (entry_slot entry i).seen
    → frames_taken frames (entry_slot entry i) ≡ slot_frames (entry_told frames place entry) i
unfolding taken_by
frames_told frames entry place i low first = in_place frames entry place i first (taken_before entry slots) (taken_up entry i slots low) (cases_eq (count_seen (entry_slot entry i).seen) 0)
