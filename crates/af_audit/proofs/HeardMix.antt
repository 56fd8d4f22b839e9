-- The mix of the takes that are heard is that of all takes.
use Rattle.std.proofs.Common.{◌≡◌, ℕ, zero, suc, ◌+◌, ◌<◌, ◌≤◌, ◌==◌, ℤ, pos, ◌+ℤ◌, ◌*ℤ◌, Bool, true, false, if◌then◌else◌, List, [], ◌∷◌, ◌++◌, All, length, map, take, drop, slice_index_or, refl, sym, ap, subst, ◌∙◌, length-take, arith}
use Rattle.af_audit.proofs.Common.{All-cons, All-nil, CycleEntry, Frame, Part, Take, count_seen, entry_slot, eqb-true, frame_at, get_or-map, left_part, left_sum, length-map, mix, mixed_frame, mixed_sample, range_with_len, right_part, right_sample, right_sum, silent_right, slot_take, slots, take_of, takes_of}
use Rattle.std.proofs.Math.IntN.{zero-*ℤ, +ℤ_idl}
use Rattle.af_base.specs.Gain.{left_half, right_half, gain_used}
use Rattle.af_audit.specs.HeardTakes.{heard_takes}

module _ (frames : List Frame) (entry : CycleEntry) where
  abbrev count : ℕ → ℕ
  count i = count_seen (entry_slot entry i).seen

  abbrev all_takes : ℕ → ℕ → List Take
  all_takes i n = map (slot_take frames entry) (range_with_len i n)

  no_frames : (i : ℕ) → count i ≡ 0 → (slot_take frames entry i).frames ≡ []
  no_frames i none = ap (λ n. take n (drop (entry_slot entry i).first frames)) none

  left_silent : (i at : ℕ) → count i ≡ 0 → left_part (slot_take frames entry i) at ≡ pos 0
  left_silent i at none =
      let gain : ℤ = pos (gain_used (left_half (slot_take frames entry i).gains) (slot_take frames entry i).scale) in
      ap (λ (fs : List Frame). (frame_at fs at).left *ℤ gain) (no_frames i none) ∙ zero-*ℤ gain

  right_silent : (i at : ℕ) → count i ≡ 0 → right_part (slot_take frames entry i) at ≡ pos 0
  right_silent i at none =
      let t : Take = slot_take frames entry i in
      let gain : ℤ = pos (gain_used (right_half t.gains) t.scale) in
      ap (λ (fs : List Frame). right_sample t.mono (frame_at fs at) *ℤ gain) (no_frames i none) ∙ silent_right t.mono gain

  left_case : (b : Bool) (i n at : ℕ) → (count i == 0) ≡ b → left_sum (heard_takes frames entry (i + 1) n) at ≡ left_sum (all_takes (i + 1) n) at
      → left_sum (if b then heard_takes frames entry (i + 1) n else slot_take frames entry i ∷ heard_takes frames entry (i + 1) n) at ≡ left_part (slot_take frames entry i) at +ℤ left_sum (all_takes (i + 1) n) at
  left_case true i n at none same =
      same ∙ sym (ap (λ (z : ℤ). z +ℤ left_sum (all_takes (i + 1) n) at) (left_silent i at (eqb-true (count i) 0 none)) ∙ +ℤ_idl (left_sum (all_takes (i + 1) n) at))
  left_case false i n at some same = ap (λ (z : ℤ). left_part (slot_take frames entry i) at +ℤ z) same

  right_case : (b : Bool) (i n at : ℕ) → (count i == 0) ≡ b → right_sum (heard_takes frames entry (i + 1) n) at ≡ right_sum (all_takes (i + 1) n) at
      → right_sum (if b then heard_takes frames entry (i + 1) n else slot_take frames entry i ∷ heard_takes frames entry (i + 1) n) at ≡ right_part (slot_take frames entry i) at +ℤ right_sum (all_takes (i + 1) n) at
  right_case true i n at none same =
      same ∙ sym (ap (λ (z : ℤ). z +ℤ right_sum (all_takes (i + 1) n) at) (right_silent i at (eqb-true (count i) 0 none)) ∙ +ℤ_idl (right_sum (all_takes (i + 1) n) at))
  right_case false i n at some same = ap (λ (z : ℤ). right_part (slot_take frames entry i) at +ℤ z) same

  left_heard : (n i at : ℕ) → left_sum (heard_takes frames entry i n) at ≡ left_sum (all_takes i n) at
  left_heard zero i at = refl
  left_heard (suc n) i at = left_case (count i == 0) i n at refl (left_heard n (i + 1) at)

  right_heard : (n i at : ℕ) → right_sum (heard_takes frames entry i n) at ≡ right_sum (all_takes i n) at
  right_heard zero i at = refl
  right_heard (suc n) i at = right_case (count i == 0) i n at refl (right_heard n (i + 1) at)

  pub mix_all : (len : ℕ) → mix (heard_takes frames entry 0 slots) len ≡ mix (takes_of frames entry) len
  mix_all len =
      let same : mixed_frame (heard_takes frames entry 0 slots) ≡ mixed_frame (takes_of frames entry) = λ i at. record { left = mixed_sample (left_heard slots 0 at i); right = mixed_sample (right_heard slots 0 at i) } in
      ap (λ (f : ℕ → Frame). map f (range_with_len 0 len)) same

  one_case : (b : Bool) (t : Take) (ts : List Take) → (if b then [] else t ∷ []) ++ ts ≡ (if b then ts else t ∷ ts)
  one_case true t ts = refl
  one_case false t ts = refl

  -- the takes that are heard are that of one slot, and then those of the next ones
  pub one_then : (i n : ℕ) → heard_takes frames entry i 1 ++ heard_takes frames entry (i + 1) n ≡ heard_takes frames entry i (suc n)
  one_then i n = one_case (count i == 0) (slot_take frames entry i) (heard_takes frames entry (i + 1) n)

  -- each take that is heard fits a mix
  module _ (asked : ℕ) (within : (i : ℕ) → i < slots → count i ≤ asked) (scaled : (i : ℕ) → i < slots → slice_index_or entry.scales i 0 ≤ 4096) where
    abbrev Fits : Take → Type 0
    Fits t = (length t.frames ≤ asked) × (t.scale ≤ 4096)

    slot_fits : (i : ℕ) → i < slots → Fits (slot_take frames entry i)
    slot_fits i lt = (omega (arith, length-take (count i) (drop (entry_slot entry i).first frames), within i lt), scaled i lt)

    case_fits : (b : Bool) (t : Take) (ts : List Take) → Fits t → All Fits ts → All Fits (if b then ts else t ∷ ts)
    case_fits true t ts fits all = all
    case_fits false t ts fits all = All-cons Fits t ts fits all

    all_fit : (n i : ℕ) → i + n ≤ slots → All Fits (heard_takes frames entry i n)
    all_fit zero i few = All-nil Fits
    all_fit (suc n) i few = case_fits (count i == 0) (slot_take frames entry i) (heard_takes frames entry (i + 1) n) (slot_fits i (omega (arith, few))) (all_fit n (i + 1) (omega (arith, few)))

    pub parts_fit : (parts : List Part) → map take_of parts ≡ heard_takes frames entry 0 slots → All (λ (part : Part). (length part.frames.now ≤ asked) × (part.scale ≤ 4096)) parts
    parts_fit parts are = λ k d lt.
        let fits : All Fits (map take_of parts) = subst (All Fits) (sym are) (all_fit slots 0 (omega arith)) in
        subst Fits (get_or-map take_of parts k d (take_of d) lt) (fits k (take_of d) (omega (arith, lt, length-map parts take_of)))
