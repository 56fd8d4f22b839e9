-- The lines of a journal's entries are those that its log gives.
use Rattle.std.proofs.Common.{◌≡◌, ℕ, zero, suc, ◌+◌, ◌<◌, ◌≤◌, ◌==◌, Bool, true, false, if◌then◌else◌, List, [], ◌∷◌, ◌++◌, length, map, take, drop, slice_index_or, refl, ap, sym, ◌∙◌, subst, arith, rules, All}
use Rattle.af_journal.proofs.Common.{All-cons, All-nil, AreEntries, EntrySeen, Frame, IsEntry, IsMixed, LieWithin, RoundSeen, append_assoc, bit_at, count_seen, drop-append-le, drop-drop, drop-map, drop_at, entries_of, entry_slot, flat_map, frames_of, frames_taken, is_mixed, is_shown, kind_of, length-append, length-drop, no_round, packed_word, range_with_len, slot_frames, slots, take-append-le, take-map, take_at, taken_before, taken_by, taken_up}
use Rattle.af_journal.specs.Lines.{Written, numbers}
use Rattle.af_journal.specs.declared.line.Line.TheVariants as line
use Rattle.af_journal.specs.Texts.{entry_lines, fast_lines, slot_lines, slots_lines, words_after}
use Rattle.af_journal.specs.Logged.{logged_entry, logged_fast, logged_slot, logged_slots}
use Rattle.af_journal.proofs.Texts.{range-more}

-- ## What a round's entries are

-- the entries of a round stand after those of the rounds before it
pub round-entries : (rounds : List RoundSeen) (i : ℕ) → i < length rounds
    → take (length (slice_index_or rounds i no_round).entries) (drop (length (entries_of (take i rounds))) (entries_of rounds)) ≡ (slice_index_or rounds i no_round).entries
round-entries [] i lt = absurd (omega arith)
round-entries (r ∷ rs) zero lt = take_at r.entries (entries_of rs) (length r.entries) refl
round-entries (r ∷ rs) (suc i) lt = let before = entries_of (take i rs) in let count = length (slice_index_or rs i no_round).entries in
    ap (λ n. take count (drop n (r.entries ++ entries_of rs))) (length-append r.entries before)
    ∙ ap (take count) (sym (drop-drop (length before) (length r.entries) (r.entries ++ entries_of rs)))
    ∙ ap (λ l. take count (drop (length before) l)) (drop_at r.entries (entries_of rs) (length r.entries) refl)
    ∙ round-entries rs i (omega arith)

-- ## Where a slot's frames stand

-- some frames in the midst of a list
middle : (before here rest : List Frame) (at count : ℕ) → at + count ≤ length here → take count (drop (length before + at) (before ++ (here ++ rest))) ≡ take count (drop at here)
middle before here rest at count within =
    ap (take count) (sym (drop-drop at (length before) (before ++ (here ++ rest))) ∙ ap (drop at) (drop_at before (here ++ rest) (length before) refl) ∙ drop-append-le at here rest (omega arith))
    ∙ take-append-le count (drop at here) rest (let e = length-drop at here in omega arith)

-- the place that a slot names: if it took no frames, any will do
at-place : (frames : List Frame) (place count first : ℕ) (kept : List Frame) → first ≡ (if count == 0 then 0 else place) → take count (drop place frames) ≡ take count kept → take count (drop first frames) ≡ take count kept
at-place frames place zero first kept is same = refl
at-place frames place (suc n) first kept is same = let e : first ≡ place = search (rules, is) in ap (λ k. take (suc n) (drop k frames)) e ∙ same

first-within : (long count place first : ℕ) → first ≡ (if count == 0 then 0 else place) → place + count ≤ long → first + count ≤ long
first-within long zero place first is within = omega arith
first-within long (suc n) place first is within = let e : first ≡ place = search (rules, is) in omega arith

-- two lists of lines that are the same where they are asked for
if-same : (b : Bool) (x y : List Written) → (b ≡ true → x ≡ y) → (if b then x else []) ≡ (if b then y else [])
if-same true x y same = same refl
if-same false x y same = refl

-- what f and g give of the first numbers
range-same : (f g : ℕ → List Written) (n : ℕ) → ((i : ℕ) → i < n → f i ≡ g i) → flat_map f (range_with_len 0 n) ≡ flat_map g (range_with_len 0 n)
range-same f g zero same = refl
range-same f g (suc n) same = let one : suc n ≡ n + 1 = omega arith in
    ap (λ k. flat_map f (range_with_len 0 k)) one ∙ range-more f n
    ∙ ap (λ l. l ++ f n) (range-same f g n (λ i lt. same i (omega arith)))
    ∙ ap (λ l. flat_map g (range_with_len 0 n) ++ l) (same n (omega arith))
    ∙ sym (range-more g n) ∙ ap (λ k. flat_map g (range_with_len 0 k)) (sym one)

-- ## The lines of an entry

-- the lines that the journal gives for an entry are those of its log
pub record AreLogged (frames : List Frame) (e : EntrySeen) : Type 0 where
  pub within : LieWithin frames e.entry
  pub lines : entry_lines e ≡ logged_entry frames e.entry

abbrev pub AreAllLogged : List Frame → List EntrySeen → Type 0
AreAllLogged frames [] = Unit {0}
AreAllLogged frames (e ∷ es) = AreLogged frames e × AreAllLogged frames es

module _ (before rest : List Frame) (place : ℕ) (e : EntrySeen) (whole : length e.frames ≡ taken_by e.entry) (here : length before ≡ place) where
  abbrev all : List Frame
  all = before ++ (e.frames ++ rest)

  -- a slot's frames end within those of its entry
  ends : (i : ℕ) → i < slots → taken_before e.entry i + count_seen (entry_slot e.entry i).seen ≤ length e.frames
  unfolding taken_by
  ends i lt = subst (λ n. taken_before e.entry i + count_seen (entry_slot e.entry i).seen ≤ n) (sym whole) (taken_up e.entry i slots lt)

  same-frames : IsMixed place e.entry → (i : ℕ) → i < slots → frames_taken all (entry_slot e.entry i) ≡ slot_frames e i
  same-frames m i lt = let slot = entry_slot e.entry i in let count = count_seen slot.seen in let at = taken_before e.entry i in
      at-place all (place + at) count slot.first (drop at e.frames) (m.placed i lt)
      (ap (λ n. take count (drop (n + at) all)) (sym here) ∙ middle before e.frames rest at count (ends i lt))

  is-within : IsMixed place e.entry → (i : ℕ) → i < slots → (entry_slot e.entry i).first + count_seen (entry_slot e.entry i).seen ≤ length all
  is-within m i lt = let slot = entry_slot e.entry i in let count = count_seen slot.seen in let at = taken_before e.entry i in
      let long = length-append before (e.frames ++ rest) in let more = length-append e.frames rest in let inside = ends i lt in
      first-within (length all) count (place + at) slot.first (m.placed i lt) (omega arith)

  same-slot : IsMixed place e.entry → (i : ℕ) → i < slots → slot_lines e i ≡ logged_slot all e.entry i
  same-slot m i lt = ap (λ (fs : List Frame). if is_shown (entry_slot e.entry i).seen then numbers (line.Slot i (slice_index_or e.entry.scales i 0) (bit_at e.entry.mono i == 1) (entry_slot e.entry i).gains (entry_slot e.entry i).flush (entry_slot e.entry i).rear (entry_slot e.entry i).seen) ∷ words_after (map packed_word fs) else []) (sym (same-frames m i lt))

  same-slots : IsMixed place e.entry → slots_lines e ≡ logged_slots all e.entry
  unfolding slots_lines logged_slots
  same-slots m = range-same (slot_lines e) (logged_slot all e.entry) slots (same-slot m)

  are-logged : IsEntry place e.entry → AreLogged all e
  are-logged is = record {
    within = λ mixed. is-within (is.mixes mixed);
    lines = ap (λ l. numbers (line.Entry e.entry.state (kind_of e.entry.cycle)) ∷ l) (if-same (is_mixed e.entry.cycle) (slots_lines e) (logged_slots all e.entry) (λ mixed. same-slots (is.mixes mixed)));
  }

-- all entries whose frames stand in the log from a place on
pub all-logged : (before : List Frame) (place : ℕ) (es : List EntrySeen) → AreEntries place es → length before ≡ place → AreAllLogged (before ++ frames_of es) es
all-logged before place [] are here = tt
all-logged before place (e ∷ es) are here = let rest = frames_of es in let joined = append_assoc before e.frames rest in (
  are-logged before rest place e are.1 here are.0,
  subst (λ (l : List Frame). AreAllLogged l es) joined (all-logged (before ++ e.frames) (place + length e.frames) es are.3 (let l = length-append before e.frames in omega arith)),
)

-- ## Some of them

pub logged-take : (frames : List Frame) (n : ℕ) (es : List EntrySeen) → AreAllLogged frames es → AreAllLogged frames (take n es)
logged-take frames zero es are = tt
logged-take frames (suc n) [] are = tt
logged-take frames (suc n) (e ∷ es) are = (are.0, logged-take frames n es are.1)

pub logged-drop : (frames : List Frame) (n : ℕ) (es : List EntrySeen) → AreAllLogged frames es → AreAllLogged frames (drop n es)
logged-drop frames zero es are = are
logged-drop frames (suc n) [] are = tt
logged-drop frames (suc n) (e ∷ es) are = logged-drop frames n es are.1

lines-same : (frames : List Frame) (es : List EntrySeen) → AreAllLogged frames es → flat_map entry_lines es ≡ flat_map (logged_entry frames) (map (λ x. x.entry) es)
lines-same frames [] are = refl
lines-same frames (e ∷ es) are = ap (λ l. l ++ flat_map entry_lines es) are.0.lines ∙ ap (λ l. logged_entry frames e.entry ++ l) (lines-same frames es are.1)

-- the lines of a round's entries
pub fast-same : (frames : List Frame) (es : List EntrySeen) → AreAllLogged frames es → fast_lines es ≡ logged_fast frames (map (λ x. x.entry) es)
fast-same frames [] are = refl
fast-same frames (e ∷ es) are = ap (λ l. numbers line.Fast ∷ l) (lines-same frames (e ∷ es) are)

-- the frames that slots name lie in the log
pub all-within : (frames : List Frame) (es : List EntrySeen) → AreAllLogged frames es → All (LieWithin frames) (map (λ x. x.entry) es)
all-within frames [] are = All-nil (LieWithin frames)
all-within frames (e ∷ es) are = All-cons (LieWithin frames) e.entry (map (λ x. x.entry) es) are.0.within (all-within frames es are.1)

-- The lines of a round's entries, from the entries of the log
pub round-same : (frames : List Frame) (rounds : List RoundSeen) (i : ℕ) → i < length rounds → AreAllLogged frames (entries_of rounds)
    → fast_lines (slice_index_or rounds i no_round).entries
    ≡ logged_fast frames (take (length (slice_index_or rounds i no_round).entries) (drop (length (entries_of (take i rounds))) (map (λ x. x.entry) (entries_of rounds))))
round-same frames rounds i lt are = let all = entries_of rounds in let first = length (entries_of (take i rounds)) in let count = length (slice_index_or rounds i no_round).entries in
    ap fast_lines (sym (round-entries rounds i lt))
    ∙ fast-same frames (take count (drop first all)) (logged-take frames count (drop first all) (logged-drop frames first all are))
    ∙ ap (logged_fast frames) (sym (take-map (λ x. x.entry) count (drop first all)) ∙ ap (take count) (sym (drop-map (λ x. x.entry) first all)))
