-- The slots of an entry and the frames that they took, as slots are filled in and frames are added.
use Rattle.std.proofs.Common.{◌≡◌, ℕ, zero, suc, ◌+◌, ◌≤◌, ◌<◌, ◌==◌, if◌then◌else◌, Bool, false, ne_eqb, List, [], ◌∷◌, ◌++◌, length, take, drop, slice_set, refl, ap, ◌∙◌, arith, rules}
use Rattle.af_model.proofs.Common.{CycleEntry, Frame, SlotEntry, count_seen, drop-append-le, entry_slot, frames_taken, get_or-set_other, get_or-set_same, length-drop, take-append-le, take_all}
use Rattle.std.proofs.Math.Seq.{drop-append_seam}
use Rattle.af_model.specs.Cycles.{taken_before, place_of}

-- an entry with one slot filled in
abbrev pub with_slot : CycleEntry → ℕ → SlotEntry → CycleEntry
with_slot entry i slot = record entry { slots = slice_set entry.slots i slot }

pub slot_filled : (entry : CycleEntry) (i : ℕ) (slot : SlotEntry) → i < length entry.slots → entry_slot (with_slot entry i slot) i ≡ slot
slot_filled entry i slot inside = search (rules, get_or-set_same)

pub slot_kept : (entry : CycleEntry) (i j : ℕ) (slot : SlotEntry) → (i ≡ j → ⊥) → entry_slot (with_slot entry i slot) j ≡ entry_slot entry j
slot_kept entry i j slot other = search (rules, get_or-set_other)

-- the slots before are as they were
pub taken_kept : (entry : CycleEntry) (i j : ℕ) (slot : SlotEntry) → j ≤ i → taken_before (with_slot entry i slot) j ≡ taken_before entry j
taken_kept entry i zero slot before = refl
taken_kept entry i (suc j) slot before =
    let rest = taken_kept entry i j slot (omega arith) in
    let here = ap (λ (s : SlotEntry). count_seen s.seen) (slot_kept entry i j slot (λ e. omega (arith, e))) in
    omega (arith, rest, here)

-- frames that are added leave those of a slot as they were
pub taken_stay : (frames more : List Frame) (slot : SlotEntry) → slot.first + count_seen slot.seen ≤ length frames → frames_taken (frames ++ more) slot ≡ frames_taken frames slot
taken_stay frames more slot inside =
    let rest : count_seen slot.seen ≤ length (drop slot.first frames) = omega (arith, length-drop slot.first frames) in
    ap (take (count_seen slot.seen)) (drop-append-le slot.first frames more (omega arith)) ∙ take-append-le (count_seen slot.seen) (drop slot.first frames) more rest

-- a slot that begins where the frames end has those that are added
pub taken_added : (frames more : List Frame) (slot : SlotEntry) → length more ≡ count_seen slot.seen → slot.first ≡ place_of (length frames) slot.seen → frames_taken (frames ++ more) slot ≡ more
taken_added frames more slot as_many first = by_count (count_seen slot.seen) more slot.first as_many first
  where
    by_count : (count : ℕ) (added : List Frame) (place : ℕ) → length added ≡ count → place ≡ (if count == 0 then 0 else length frames) → take count (drop place (frames ++ added)) ≡ added
    by_count zero [] place same at = refl
    by_count zero (f ∷ added) place same at = absurd (omega (arith, same))
    by_count (suc n) added place same at =
        let some : (suc n == 0) ≡ false = ne_eqb (suc n) 0 (λ e. omega (arith, e)) in
        let end : (if suc n == 0 then 0 else length frames) ≡ length frames = ap (λ (b : Bool). if b then 0 else length frames) some in
        let there : drop place (frames ++ added) ≡ added = ap (λ (k : ℕ). drop k (frames ++ added)) (at ∙ end) ∙ drop-append_seam frames added in
        ap (take (suc n)) there ∙ take_all (suc n) added (omega (arith, same))
