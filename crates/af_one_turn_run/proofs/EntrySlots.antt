-- An entry is told by its slots: by what each shows, and by the words of the frames that it took.
use Rattle.std.proofs.Common.{◌≡◌, inl, inr, ℕ, zero, suc, ◌+◌, ◌<◌, ◌≤◌, ◌==◌, ◌&&◌, Bool, true, false, true≢false, if◌then◌else◌, find, map, ◌++◌, take, drop, length, All, Some, refl, sym, ap, ◌∙◌, subst, arith, eqb-true, eq-eqb}
use Rattle.af_one_turn_run.proofs.Common.{CarriesApart, CycleEntry, EntrySeen, FastState, IsFrame, SlotEntry, absent, both, carries, cases_eq, count_seen, entry_slot, ext_get_or, length-drop, length-take, map-append, packed_word, place_of, shows_slot, range_with_len, slot_playing, slot_frames, slot_of, slots, take_all, taken_before, both_true}
use Rattle.af_one_turn_run.proofs.Parts.{take-add}
use Rattle.af_one_turn_run.proofs.OneFrames.{one_frames}
use Rattle.af_one_turn_run.proofs.OneTakes.{bare_slot}

-- ## The slot of a track

-- the only number that passes the test is found
find_only : (p : ℕ → Bool) (a n k : ℕ) → p k ≡ true → ((j : ℕ) → j < a + n → p j ≡ true → j ≡ k) → a ≤ k → k < a + n → find p (range_with_len a n) ≡ Some k
find_only p a zero k holds only low high = absurd (let z : ⊥ = omega (arith, low, high) in z)
find_only p a (suc n) k holds only low high = by_first (p a) refl (λ ne. find_only p (a + 1) n k holds (λ j lt. only j (omega (arith, lt))) (omega (arith, low, ne)) (omega (arith, high)))
  where
    by_first : (b : Bool) → p a ≡ b → ((a ≡ k → ⊥) → find p (range_with_len (a + 1) n) ≡ Some k) → (if b then Some a else find p (range_with_len (a + 1) n)) ≡ Some k
    by_first true is more = ap Some (only a (omega arith) is)
    by_first false is more = more (λ e. true≢false (sym (ap p e ∙ holds) ∙ is))

pub slot_found : (x : FastState) (entry : CycleEntry) (i : ℕ) → CarriesApart x → i < slots → carries x i ≡ true → shows_slot x entry i ≡ true → slot_playing x entry (slot_of x i).track ≡ Some i
slot_found x entry i apart low carried here =
    find_only (λ j. shows_slot x entry j && ((slot_of x j).track == (slot_of x i).track)) 0 slots i (both_true (shows_slot x entry i) _ here (same_yes (slot_of x i).track))
    (λ j lt p. let two = both (shows_slot x entry j) ((slot_of x j).track == (slot_of x i).track) p in apart j i (omega (arith, lt)) low (both (carries x j) _ two.0).0 carried (eqb-true (slot_of x j).track (slot_of x i).track two.1))
    (omega arith) (omega (arith, low))
  where
    same_yes : (n : ℕ) → (n == n) ≡ true
    same_yes n = eq-eqb n n refl

-- ## Frames

pub taken_rise : (entry : CycleEntry) (i n : ℕ) → i ≤ n → taken_before entry i ≤ taken_before entry n
taken_rise entry i zero low = let e : i ≡ 0 = omega (arith, low) in subst (λ j. taken_before entry j ≤ 0) (sym e) (omega arith)
taken_rise entry i (suc n) low = elim (cases_eq i (suc n)) as (λ _. taken_before entry i ≤ taken_before entry (suc n)) [
  | inl e ↦ subst (λ j. taken_before entry i ≤ taken_before entry j) e (omega arith)
  | inr ne ↦ (let r = taken_rise entry i n (omega (arith, low, ne)) in omega (arith, r))
]

-- a slot took as many frames as it shows
pub slot_long : (e : EntrySeen) (i : ℕ) → i < slots → length e.frames ≡ taken_before e.entry slots → length (slot_frames e i) ≡ count_seen (entry_slot e.entry i).seen
slot_long e i low long =
    let t = length-take (count_seen (entry_slot e.entry i).seen) (drop (taken_before e.entry i) e.frames) in
    let d = length-drop (taken_before e.entry i) e.frames in
    let r = taken_rise e.entry (suc i) slots (omega (arith, low)) in
    t ∙ omega (arith, d, r, long)

-- two entries whose slots show and take the same
pub record AreAlike (a b : EntrySeen) : Type 0 where
  pub bare : (i : ℕ) → i < slots → bare_slot (entry_slot a.entry i) ≡ bare_slot (entry_slot b.entry i)
  pub words : (i : ℕ) → i < slots → map packed_word (slot_frames a i) ≡ map packed_word (slot_frames b i)

module _ (a b : EntrySeen) (alike : AreAlike a b) where
  pub same_before : (i : ℕ) → i ≤ slots → taken_before a.entry i ≡ taken_before b.entry i
  same_before zero low = refl
  same_before (suc i) low = λ j. same_before i (omega (arith, low)) j + count_seen (alike.bare i (omega (arith, low)) j).seen

  words_before : (i : ℕ) → i ≤ slots → map packed_word (take (taken_before a.entry i) a.frames) ≡ map packed_word (take (taken_before b.entry i) b.frames)
  words_before zero low = refl
  words_before (suc i) low =
      more a ∙ (λ j. words_before i (omega (arith, low)) j ++ alike.words i (omega (arith, low)) j) ∙ sym (more b)
    where
      more : (e : EntrySeen) → map packed_word (take (taken_before e.entry i + count_seen (entry_slot e.entry i).seen) e.frames) ≡ map packed_word (take (taken_before e.entry i) e.frames) ++ map packed_word (slot_frames e i)
      more e = ap (map packed_word) (take-add (taken_before e.entry i) (count_seen (entry_slot e.entry i).seen) e.frames) ∙ map-append packed_word (take (taken_before e.entry i) e.frames) (slot_frames e i)

  pub same_frames : length a.frames ≡ taken_before a.entry slots → length b.frames ≡ taken_before b.entry slots → All IsFrame a.frames → All IsFrame b.frames → a.frames ≡ b.frames
  same_frames long long_b are are_b =
      one_frames a.frames b.frames are are_b (ap (map packed_word) (sym (take_all (taken_before a.entry slots) a.frames (omega (arith, long)))) ∙ words_before slots (omega arith) ∙ ap (map packed_word) (take_all (taken_before b.entry slots) b.frames (omega (arith, long_b))))

  pub same_slots : (place : ℕ) → length a.entry.slots ≡ slots → length b.entry.slots ≡ slots → ((i : ℕ) → i < slots → (entry_slot a.entry i).first ≡ place_of (place + taken_before a.entry i) (entry_slot a.entry i).seen)
      → ((i : ℕ) → i < slots → (entry_slot b.entry i).first ≡ place_of (place + taken_before b.entry i) (entry_slot b.entry i).seen) → a.entry.slots ≡ b.entry.slots
  same_slots place long long_b placed placed_b = ext_get_or absent a.entry.slots b.entry.slots (long ∙ sym long_b) (λ i low. each i (let l = long in omega (arith, low, l)))
    where
      each : (i : ℕ) → i < slots → entry_slot a.entry i ≡ entry_slot b.entry i
      each i low =
          let bare = alike.bare i low in
          let first : (entry_slot a.entry i).first ≡ (entry_slot b.entry i).first = placed i low ∙ (λ j. place_of (place + same_before i (omega (arith, low)) j) (bare j).seen) ∙ sym (placed_b i low) in
          λ j. let x : SlotEntry = record (bare j) { first = first j } in x
