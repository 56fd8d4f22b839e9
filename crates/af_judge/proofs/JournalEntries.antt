-- The entries of a journal have their form, and their frames stand in its log.
use Rattle.std.proofs.Common.{◌≡◌, ◌⊎◌, inl, inr, ℕ, zero, suc, ◌+◌, ◌<◌, ◌≤◌, ◌==◌, Bool, true, false, if◌then◌else◌, refl, sym, ap, ◌∙◌, subst, map, List, [], ◌∷◌, ◌++◌, length, take, drop, append_assoc, append-nil, length-append, eqb-true, arith}
use Rattle.af_judge.proofs.Common.{AreEntries, CycleEntry, EntrySeen, Frame, IsEntry, IsJournal, JournalData, RoundSeen, SlotEntry, absent, count_seen, drop-append-add, drop-append-le, drop-append_seam, drop-map, entries_of, entry_slot, frames_of, frames_taken, get_or-replicate, is_mixed, length-drop, length-take-le, no_round, round_at, slice_index_or, slot_frames, slots, sum_by, sum_by-cons, take-append-drop, take-append-le, take-append_seam, take-map, taken_before, taken_by, taken_up}
use Rattle.af_judge.proofs.Words.{StandsIn}
use Rattle.af_judge.proofs.Words.{AreFormed}

-- ## The slots of an entry

-- a slot took nothing, or its frames begin where the log was and those before it end
slot-placed : (place : ℕ) (entry : CycleEntry) → IsEntry place entry → (i : ℕ) → i < slots → (count_seen (entry_slot entry i).seen ≡ 0) ⊎ ((entry_slot entry i).first ≡ place + taken_before entry i)
slot-placed place entry form i low = by_kind (is_mixed entry.cycle) refl
  where
    by_count : (b : Bool) → (count_seen (entry_slot entry i).seen == 0) ≡ b → (entry_slot entry i).first ≡ (if b then 0 else place + taken_before entry i) → (count_seen (entry_slot entry i).seen ≡ 0) ⊎ ((entry_slot entry i).first ≡ place + taken_before entry i)
    by_count true none first = inl (eqb-true (count_seen (entry_slot entry i).seen) 0 none)
    by_count false none first = inr first

    by_kind : (b : Bool) → is_mixed entry.cycle ≡ b → (count_seen (entry_slot entry i).seen ≡ 0) ⊎ ((entry_slot entry i).first ≡ place + taken_before entry i)
    by_kind true mixed = by_count (count_seen (entry_slot entry i).seen == 0) refl ((form.mixes mixed).placed i low)
    by_kind false still = inl (ap (λ (x : CycleEntry). count_seen (entry_slot x i).seen) (form.still still) ∙ ap (λ (s : SlotEntry). count_seen s.seen) (get_or-replicate slots i absent absent low))

-- ## Frames that stand in the log

-- a piece of a part is that piece of the whole
piece : (pre own post : List Frame) (first count before : ℕ) → first ≡ length pre + before → before + count ≤ length own → take count (drop first (pre ++ (own ++ post))) ≡ take count (drop before own)
piece pre own post first count before is inside =
    ap (λ (k : ℕ). take count (drop k (pre ++ (own ++ post)))) is
    ∙ (ap (take count) (drop-append-add pre (own ++ post) before ∙ drop-append-le before own post (omega (arith, inside)))
    ∙ take-append-le count (drop before own) post (let l = length-drop before own in omega (arith, l, inside)))

-- the frames of an entry stand between those before and those after it
stands-so : (pre post : List Frame) (e : EntrySeen) → IsEntry (length pre) e.entry → length e.frames ≡ taken_by e.entry → StandsIn (pre ++ (e.frames ++ post)) e
unfolding taken_by
stands-so pre post e form long = record {
  same = λ i low. by_place i (inside i low) (slot-placed (length pre) e.entry form i low);
  many = λ i low. many i (inside i low);
}
  where
    inside : (i : ℕ) → i < slots → taken_before e.entry i + count_seen (entry_slot e.entry i).seen ≤ length e.frames
    inside i low = let all = taken_up e.entry i slots low in omega (arith, all, long)

    by_place : (i : ℕ) → taken_before e.entry i + count_seen (entry_slot e.entry i).seen ≤ length e.frames
        → (count_seen (entry_slot e.entry i).seen ≡ 0) ⊎ ((entry_slot e.entry i).first ≡ length pre + taken_before e.entry i) → frames_taken (pre ++ (e.frames ++ post)) (entry_slot e.entry i) ≡ slot_frames e i
    by_place i within (inl none) = ap (λ (n : ℕ). take n (drop (entry_slot e.entry i).first (pre ++ (e.frames ++ post)))) none ∙ sym (ap (λ (n : ℕ). take n (drop (taken_before e.entry i) e.frames)) none)
    by_place i within (inr first) = piece pre e.frames post (entry_slot e.entry i).first (count_seen (entry_slot e.entry i).seen) (taken_before e.entry i) first within

    many : (i : ℕ) → taken_before e.entry i + count_seen (entry_slot e.entry i).seen ≤ length e.frames → length (slot_frames e i) ≡ count_seen (entry_slot e.entry i).seen
    many i within = let l = length-drop (taken_before e.entry i) e.frames in length-take-le (count_seen (entry_slot e.entry i).seen) (drop (taken_before e.entry i) e.frames) (omega (arith, within, l))

-- ## All entries of a journal

formed : (pre post : List Frame) (es : List EntrySeen) → AreEntries (length pre) es → AreFormed (pre ++ (frames_of es ++ post)) (length pre) es
formed pre post [] are = tt
formed pre post (e ∷ es) are =
    let rest : AreEntries (length (pre ++ e.frames)) es = subst (λ (n : ℕ). AreEntries n es) (sym (length-append pre e.frames)) are.3 in
    let more = formed (pre ++ e.frames) post es rest in
    let log : pre ++ ((e.frames ++ frames_of es) ++ post) ≡ pre ++ (e.frames ++ (frames_of es ++ post)) = ap (λ (fs : List Frame). pre ++ fs) (append_assoc e.frames (frames_of es) post) in
    let here = stands-so pre (frames_of es ++ post) e are.0 are.1 in
    let place : length (pre ++ e.frames) ≡ length pre + taken_by e.entry = length-append pre e.frames ∙ ap (λ (n : ℕ). length pre + n) are.1 in (
      subst (λ (fs : List Frame). StandsIn fs e) (sym log) here,
      are.0,
      subst (λ (n : ℕ). AreFormed (pre ++ ((e.frames ++ frames_of es) ++ post)) n es) place
          (subst (λ (fs : List Frame). AreFormed fs (length (pre ++ e.frames)) es) (append_assoc pre e.frames (frames_of es ++ post) ∙ sym log) more),
    )

-- ## The entries of a round

-- entries behind some others are of their form
formed-behind : (frames : List Frame) (place : ℕ) (es more : List EntrySeen) → AreFormed frames place (es ++ more) → AreFormed frames (place + sum_by taken_by (map (λ e. e.entry) es)) more
formed-behind frames place [] more are = subst (λ (n : ℕ). AreFormed frames n more) (omega arith) are
formed-behind frames place (e ∷ es) more are =
    let rest = formed-behind frames (place + taken_by e.entry) es more are.2 in
    let sum = sum_by-cons taken_by e.entry (map (λ e. e.entry) es) in
    subst (λ (n : ℕ). AreFormed frames n more) (omega (arith, sum)) rest

-- entries before some others are of their form
formed-before : (frames : List Frame) (place : ℕ) (es more : List EntrySeen) → AreFormed frames place (es ++ more) → AreFormed frames place es
formed-before frames place [] more are = tt
formed-before frames place (e ∷ es) more are = (are.0, are.1, formed-before frames (place + taken_by e.entry) es more are.2)

drop-next : (r : RoundSeen) (rounds : List RoundSeen) (n : ℕ) → drop (n + 1) rounds ≡ drop (suc n + 1) (r ∷ rounds)
drop-next r rounds n = ap (λ (k : ℕ). drop k (r ∷ rounds)) (let e : suc (n + 1) ≡ suc n + 1 = omega arith in e)

-- the entries of all rounds are those of the rounds before one, its own, and those of the rounds after it
round-split : (rounds : List RoundSeen) (n : ℕ) → n < length rounds → entries_of rounds ≡ entries_of (take n rounds) ++ ((slice_index_or rounds n no_round).entries ++ entries_of (drop (n + 1) rounds))
round-split [] n lt = absurd (omega (arith, lt))
round-split (r ∷ rounds) zero lt = refl
round-split (r ∷ rounds) (suc n) lt =
    let own = (slice_index_or rounds n no_round).entries in
    ap (λ (es : List EntrySeen). r.entries ++ es) (round-split rounds n (omega (arith, lt)))
    ∙ (sym (append_assoc r.entries (entries_of (take n rounds)) (own ++ entries_of (drop (n + 1) rounds)))
    ∙ ap (λ (rs : List RoundSeen). (r.entries ++ entries_of (take n rounds)) ++ (own ++ entries_of rs)) (drop-next r rounds n))

-- the entries of a round have their form, behind those of the rounds before
pub round_formed : (j : JournalData) (frames : List Frame) (n : ℕ) → IsJournal j → frames_of (entries_of j.rounds) ≡ frames → n < length j.rounds
    → AreFormed frames (sum_by taken_by (map (λ e. e.entry) (entries_of (take n j.rounds)))) (round_at j n).entries
round_formed j frames n form is low =
    let all : AreFormed frames 0 (entries_of j.rounds) = subst (λ (fs : List Frame). AreFormed fs 0 (entries_of j.rounds)) (append-nil (frames_of (entries_of j.rounds)) ∙ is) (formed [] [] (entries_of j.rounds) form.entries) in
    let split = subst (AreFormed frames 0) (round-split j.rounds n low) all in
    let place : 0 + sum_by taken_by (map (λ e. e.entry) (entries_of (take n j.rounds))) ≡ sum_by taken_by (map (λ e. e.entry) (entries_of (take n j.rounds))) = omega arith in
    let behind = subst (λ (k : ℕ). AreFormed frames k ((round_at j n).entries ++ entries_of (drop (n + 1) j.rounds))) place (formed-behind frames 0 (entries_of (take n j.rounds)) ((round_at j n).entries ++ entries_of (drop (n + 1) j.rounds)) split) in
    formed-before frames (sum_by taken_by (map (λ e. e.entry) (entries_of (take n j.rounds)))) (round_at j n).entries (entries_of (drop (n + 1) j.rounds)) behind

-- the entries of a round are those of the log from their place on
pub round_entries_at : (j : JournalData) (n : ℕ) → n < length j.rounds
    → take (length (round_at j n).entries) (drop (length (entries_of (take n j.rounds))) (map (λ e. e.entry) (entries_of j.rounds))) ≡ map (λ e. e.entry) (round_at j n).entries
round_entries_at j n low =
    let before = entries_of (take n j.rounds) in
    let own = (round_at j n).entries in
    let after = entries_of (drop (n + 1) j.rounds) in
    ap (λ (es : List EntrySeen). take (length own) (drop (length before) (map (λ e. e.entry) es))) (round-split j.rounds n low)
    ∙ (ap (take (length own)) (drop-map (λ (e : EntrySeen). e.entry) (length before) (before ++ (own ++ after)))
    ∙ (take-map (λ (e : EntrySeen). e.entry) (length own) (drop (length before) (before ++ (own ++ after)))
    ∙ ap (map (λ (e : EntrySeen). e.entry)) (ap (take (length own)) (drop-append_seam before (own ++ after)) ∙ take-append_seam own after)))

-- a part of a round's entries: those before a place, and those from it on
pub formed_front : (frames : List Frame) (place n : ℕ) (es : List EntrySeen) → AreFormed frames place es → AreFormed frames place (take n es)
formed_front frames place n es are = formed-before frames place (take n es) (drop n es) (subst (AreFormed frames place) (sym (take-append-drop n es)) are)

pub formed_rest : (frames : List Frame) (place n : ℕ) (es : List EntrySeen) → AreFormed frames place es → AreFormed frames (place + sum_by taken_by (map (λ e. e.entry) (take n es))) (drop n es)
formed_rest frames place n es are = formed-behind frames place (take n es) (drop n es) (subst (AreFormed frames place) (sym (take-append-drop n es)) are)
