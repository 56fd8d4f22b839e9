-- The slots of a mix, put together from the last on.
use Rattle.std.proofs.Common.{◌≡◌, ◌⊎◌, inl, inr, ℕ, zero, suc, ◌+◌, ◌-◌, ◌*◌, ◌/◌, ◌%◌, ◌<◌, ◌≤◌, ◌^◌, ◌==◌, List, [], ◌∷◌, ◌++◌, length, map, take, drop, Bool, true, false, cond, get_or, slice_index_or, lit<, refl, ap, ◌∙◌, sym, subst, arith, All, append_assoc, append-nil}
use Rattle.af_journal.proofs.Common.{All-append, All-nil, CycleEntry, EntrySeen, Frame, IsAbsent, IsFrame, IsMixed, IsSeen, IsSubmix, Seen, SlotEntry, absent, bit_at, bit_at-suc, bit_at_lowest, count_seen, drop-drop, drop_at, entry_slot, flat_map, flat_map-append, get_or-map, is_shown, length-append, length-map, one_few, one_if, packed_word, place_of, pow-suc, range_with_len, shown, shown_if, slot_frames, slots, take_all, take_at, take_more, taken_before, taken_by}
use Rattle.af_journal.specs.declared.line.Line.TheVariants as line
use Rattle.af_journal.specs.Lines.{Written, numbers}
use Rattle.af_journal.specs.Mixes.{SlotGot, lines_by, got_lines, IsGot, AreGots, frames_in, marks, mix_entry}
use Rattle.af_journal.specs.Texts.{each_from, slot_lines, slots_lines, words_after}
use Rattle.af_journal.proofs.Spelled.{digit_back}
use Rattle.af_journal.proofs.Texts.{each-next, range-more}
use Rattle.af_journal.proofs.RoundsLeft.{many, length-many, pad_all, pad_to, EntriesLeft}

-- ## Slots

pub no_got : SlotGot
no_got = record { slot = absent; scale = 0; mono = false; frames = [] }

abbrev pub IsFirst : SlotGot → Type 0
IsFirst g = IsSubmix g.slot × (g.scale ≡ 4096) × (g.mono ≡ false)

-- the first slot is the submix
abbrev pub HeadFirst : ℕ → List SlotGot → Type 0
HeadFirst low [] = Unit {0}
HeadFirst low (g ∷ gs) = low ≡ 0 → IsFirst g

pub record SlotsLeft (tracks low place : ℕ) (ws : List Written) : Type 0 where
  pub gots : List SlotGot
  pub count : length gots ≡ slots - low
  pub are : AreGots place gots
  pub first : HeadFirst low gots
  pub rest : List Written
  pub entries : EntriesLeft tracks (place + length (frames_in gots)) rest
  pub lines : ws ≡ each_from got_lines low gots ++ rest

pub record SlotLeft (tracks due low place : ℕ) (ws : List Written) : Type 0 where
  pub fs : List Frame
  pub count : length fs ≡ due
  pub are : All IsFrame fs
  pub rest : List Written
  pub slots : SlotsLeft tracks low (place + due) rest
  pub lines : ws ≡ words_after (map packed_word fs) ++ rest

pub no_got_lines : (n : ℕ) → got_lines n no_got ≡ []
unfolding no_got
no_got_lines n = refl

pub no_got_is : (place : ℕ) → IsGot place no_got
unfolding no_got
no_got_is place = record { other = inl (refl, refl, refl); first = refl; count = refl; are = All-nil IsFrame }

pub no_more : (place : ℕ) → place ≡ place + length no_got.frames
unfolding no_got
no_more place = omega arith

pub none_first : (l : List Frame) → no_got.frames ++ l ≡ l
unfolding no_got
none_first l = refl

pub no_first : (low n : ℕ) → 1 ≤ low → HeadFirst low (many n no_got)
no_first low zero h = tt
no_first low (suc n) h = λ z. absurd (omega arith)

pub pad_gots : (place k : ℕ) (gs : List SlotGot) → AreGots place gs → AreGots place (many k no_got ++ gs)
pad_gots place zero gs are = are
pad_gots place (suc k) gs are = (no_got_is place, subst (λ n. AreGots n (many k no_got ++ gs)) (no_more place) (pad_gots place k gs are))

pub pad_frames : (k : ℕ) (gs : List SlotGot) → frames_in (many k no_got ++ gs) ≡ frames_in gs
pad_frames zero gs = refl
pad_frames (suc k) gs = none_first (frames_in (many k no_got ++ gs)) ∙ pad_frames k gs

pub entries_slots : (tracks low place : ℕ) (ws : List Written) → 1 ≤ low → EntriesLeft tracks place ws → SlotsLeft tracks low place ws
entries_slots tracks low place ws h e =
    let none : many (slots - low) no_got ++ [] ≡ many (slots - low) no_got = append-nil (many (slots - low) no_got) in
    let frames : frames_in (many (slots - low) no_got) ≡ [] = ap frames_in (sym none) ∙ pad_frames (slots - low) [] in
    record {
      gots = many (slots - low) no_got;
      count = length-many (slots - low) no_got;
      are = subst (AreGots place) none (pad_gots place (slots - low) [] tt);
      first = no_first low (slots - low) h;
      rest = ws;
      entries = subst (λ n. EntriesLeft tracks n ws) (let n = ap length frames in let m : place ≡ place + length (frames_in (many (slots - low) no_got)) = omega arith in m) e;
      lines = ap (λ l. l ++ ws) (sym (pad_all got_lines no_got no_got_lines low (slots - low)));
    }

pub no_slot_words : (tracks low place : ℕ) (ws : List Written) → SlotsLeft tracks low place ws → SlotLeft tracks 0 low place ws
no_slot_words tracks low place ws s = record { fs = []; count = refl; are = All-nil IsFrame; rest = ws; slots = subst (λ n. SlotsLeft tracks low n ws) (let n : place ≡ place + 0 = omega arith in n) s; lines = refl }

pub padded_first : (low k : ℕ) (g : SlotGot) (gs : List SlotGot) → (low ≡ 0 → (k ≡ 0) × IsFirst g) → HeadFirst low (many k no_got ++ g ∷ gs)
padded_first low zero g gs h = λ z. (h z).1
padded_first low (suc k) g gs h = λ z. absurd (let e = (h z).0 in omega arith)

pub with_slot : (tracks low i scale gains flush rear place : ℕ) (mono : Bool) (answer : Seen) (ws : List Written) → low ≤ i → i < slots → IsSeen answer
    → (low ≡ 0 → (i ≡ 0) × (gains ≡ 268439552) × (flush ≡ 0) × (answer ≡ shown (count_seen answer)) × (scale ≡ 4096) × (mono ≡ false))
    → SlotLeft tracks (count_seen answer) (i + 1) place ws → SlotsLeft tracks low place (numbers (line.Slot i scale mono gains flush rear answer) ∷ ws)
with_slot tracks low i scale gains flush rear place mono answer ws h k s unity d =
    let g : SlotGot = record { slot = record { gains = gains; flush = flush; rear = rear; seen = answer; first = place_of place answer }; scale = scale; mono = mono; frames = d.fs } in
    let is : IsGot place g = record { other = inr s; first = refl; count = d.count; are = d.are } in
    let m = d.slots in
    let later : AreGots (place + length d.fs) m.gots = subst (λ n. AreGots (place + n) m.gots) (sym d.count) m.are in
    let frames : frames_in (many (i - low) no_got ++ g ∷ m.gots) ≡ d.fs ++ frames_in m.gots = pad_frames (i - low) (g ∷ m.gots) in
    let ws' = words_after (map packed_word d.fs) in
    let shows : is_shown answer ≡ true = shown_if answer s in
    record {
      gots = many (i - low) no_got ++ g ∷ m.gots;
      count = (let a = length-append (many (i - low) no_got) (g ∷ m.gots) in let b = length-many (i - low) no_got in let e = m.count in omega arith);
      are = pad_gots place (i - low) (g ∷ m.gots) (is, later);
      first = padded_first low (i - low) g m.gots (λ z. let u = unity z in ((let e = u.0 in omega arith), ((u.1, u.2, u.3), u.4, u.5)));
      rest = m.rest;
      entries = subst (λ n. EntriesLeft tracks n m.rest) (let a = ap length frames in let b = length-append d.fs (frames_in m.gots) in let c = d.count in
          let n : place + count_seen answer + length (frames_in m.gots) ≡ place + length (frames_in (many (i - low) no_got ++ g ∷ m.gots)) = omega arith in n) m.entries;
      lines = ap (λ l. numbers (line.Slot i scale mono gains flush rear answer) ∷ l) (d.lines ∙ ap (λ l. ws' ++ l) m.lines ∙ sym (append_assoc ws' (each_from got_lines (i + 1) m.gots) m.rest))
          ∙ ap (λ b. (cond b (numbers (line.Slot i scale mono gains flush rear answer) ∷ ws') [] ++ each_from got_lines (i + 1) m.gots) ++ m.rest) (sym shows)
          ∙ ap (λ l. l ++ m.rest) (sym (pad_to got_lines no_got no_got_lines low i (g ∷ m.gots) h));
    }

-- ## A mix

pub lowest_of : (d v : ℕ) → d ≤ 1 → (d + 2 * v) % 2 ≡ d
lowest_of d v h = omega arith

pub half_of : (d v : ℕ) → d ≤ 1 → (d + 2 * v) / 2 ≡ v
half_of d v h = omega arith

pub mark_at : (bs : List Bool) (i : ℕ) → i < length bs → bit_at (marks bs) i ≡ one_if (get_or bs i false)
unfolding marks
mark_at [] i h = absurd (omega arith)
mark_at (b ∷ bs) zero h = bit_at_lowest (one_if b + 2 * marks bs) ∙ lowest_of (one_if b) (marks bs) (one_few b)
mark_at (b ∷ bs) (suc i) h = bit_at-suc (one_if b + 2 * marks bs) i ∙ ap (λ n. bit_at n i) (half_of (one_if b) (marks bs) (one_few b)) ∙ mark_at bs i (omega arith)

pub marks_small : (bs : List Bool) → marks bs < 2 ^ length bs
unfolding marks
marks_small [] = lit< tt
marks_small (b ∷ bs) = let p = pow-suc 2 (length bs) in let h = marks_small bs in let d = one_few b in omega arith

unfoldable pub got_at : List SlotGot → ℕ → SlotGot
got_at gs i = slice_index_or gs i no_got

pub got_is : (place : ℕ) (gs : List SlotGot) (i : ℕ) → AreGots place gs → i < length gs → IsGot (place + length (frames_in (take i gs))) (got_at gs i)
unfolding got_at
got_is place [] i are h = absurd (omega arith)
got_is place (g ∷ gs) zero are h = subst (λ n. IsGot n g) (let e : place ≡ place + 0 = omega arith in e) are.0
got_is place (g ∷ gs) (suc i) are h =
    let a = length-append g.frames (frames_in (take i gs)) in
    subst (λ n. IsGot n (slice_index_or gs i no_got)) (let e : place + length g.frames + length (frames_in (take i gs)) ≡ place + length (g.frames ++ frames_in (take i gs)) = omega arith in e) (got_is (place + length g.frames) gs i are.1 (omega arith))

pub past : (a b : List Frame) (n : ℕ) → drop (length a + n) (a ++ b) ≡ drop n b
past a b n = sym (drop-drop n (length a) (a ++ b)) ∙ ap (drop n) (drop_at a b (length a) refl)

pub got_frames : (place : ℕ) (gs : List SlotGot) (i : ℕ) → AreGots place gs → i < length gs → take (count_seen (got_at gs i).slot.seen) (drop (length (frames_in (take i gs))) (frames_in gs)) ≡ (got_at gs i).frames
unfolding got_at
got_frames place [] i are h = absurd (omega arith)
got_frames place (g ∷ gs) zero are h = take_at g.frames (frames_in gs) (count_seen g.slot.seen) are.0.count
got_frames place (g ∷ gs) (suc i) are h =
    let n = length (frames_in (take i gs)) in let count = count_seen (slice_index_or gs i no_got).slot.seen in
    ap (λ m. take count (drop m (g.frames ++ frames_in gs))) (length-append g.frames (frames_in (take i gs)))
    ∙ ap (take count) (past g.frames (frames_in gs) n) ∙ got_frames (place + length g.frames) gs i are.1 (omega arith)

pub all_frames : (place : ℕ) (gs : List SlotGot) → AreGots place gs → All IsFrame (frames_in gs)
all_frames place [] are = All-nil IsFrame
all_frames place (g ∷ gs) are = All-append IsFrame g.frames (frames_in gs) are.0.are (all_frames (place + length g.frames) gs are.1)

-- the frames of one slot more, and its lines
pub frames_more : (gs : List SlotGot) (k : ℕ) → k < length gs → frames_in (take (k + 1) gs) ≡ frames_in (take k gs) ++ (got_at gs k).frames
unfolding got_at
frames_more gs k h = ap frames_in (take_more gs k no_got h) ∙ flat_map-append (λ (g : SlotGot). g.frames) (take k gs) (slice_index_or gs k no_got ∷ []) ∙ ap (λ l. frames_in (take k gs) ++ l) (append-nil (slice_index_or gs k no_got).frames)

pub next_lines : (gs : List SlotGot) (n : ℕ) → n < length gs → each_from got_lines 0 (take (n + 1) gs) ≡ each_from got_lines 0 (take n gs) ++ got_lines n (got_at gs n)
unfolding got_at
next_lines gs n h = each-next got_lines gs n no_got h

pub head_first : (gs : List SlotGot) → 1 ≤ length gs → HeadFirst 0 gs → IsFirst (got_at gs 0)
unfolding got_at
head_first [] h f = absurd (omega arith)
head_first (g ∷ gs) h f = f refl

pub mix_whole : (state : ℕ) (gs : List SlotGot) → length gs ≡ slots → (length (mix_entry state gs).slots ≡ slots) × (length (mix_entry state gs).scales ≡ slots) × ((mix_entry state gs).mono < 2 ^ slots)
unfolding mix_entry
mix_whole state gs count = (
  length-map gs (λ (g : SlotGot). g.slot) ∙ count,
  length-map gs (λ (g : SlotGot). g.scale) ∙ count,
  subst (λ n. marks (map (λ (g : SlotGot). g.mono) gs) < 2 ^ n) (length-map gs (λ (g : SlotGot). g.mono) ∙ count) (marks_small (map (λ (g : SlotGot). g.mono) gs)),
)

module _ (state place : ℕ) (gs : List SlotGot) (count : length gs ≡ slots) (are : AreGots place gs) where
  abbrev pub entry : CycleEntry
  entry = mix_entry state gs

  abbrev pub mix : EntrySeen
  mix = record { entry = mix_entry state gs; frames = frames_in gs }

  pub slot_is : (i : ℕ) → i < slots → entry_slot (mix_entry state gs) i ≡ (got_at gs i).slot
  unfolding mix_entry got_at
  slot_is i h = get_or-map (λ (g : SlotGot). g.slot) gs i no_got absent (omega (arith, count))

  pub scale_is : (i : ℕ) → i < slots → slice_index_or (mix_entry state gs).scales i 0 ≡ (got_at gs i).scale
  unfolding mix_entry got_at
  scale_is i h = get_or-map (λ (g : SlotGot). g.scale) gs i no_got 0 (omega (arith, count))

  pub bit_is : (i : ℕ) → i < slots → bit_at (mix_entry state gs).mono i ≡ one_if (got_at gs i).mono
  unfolding mix_entry got_at
  bit_is i h =
      let long = length-map gs (λ (g : SlotGot). g.mono) in
      mark_at (map (λ (g : SlotGot). g.mono) gs) i (omega (arith, count, long)) ∙ ap one_if (get_or-map (λ (g : SlotGot). g.mono) gs i no_got false (omega (arith, count)))

  pub taken_is : (k : ℕ) → k ≤ slots → taken_before (mix_entry state gs) k ≡ length (frames_in (take k gs))
  taken_is zero h = refl
  taken_is (suc k) h =
      let before = taken_is k (omega arith) in
      let own : count_seen (entry_slot (mix_entry state gs) k).seen ≡ length (got_at gs k).frames = ap (λ (s : SlotEntry). count_seen s.seen) (slot_is k (omega arith)) ∙ sym (got_is place gs k are (omega (arith, count))).count in
      let more : frames_in (take (k + 1) gs) ≡ frames_in (take k gs) ++ (got_at gs k).frames = frames_more gs k (omega (arith, count)) in
      let long = ap length more in
      let joined = length-append (frames_in (take k gs)) (got_at gs k).frames in
      let same : length (frames_in (take (suc k) gs)) ≡ length (frames_in (take (k + 1) gs)) = ap (λ n. length (frames_in (take n gs))) (let e : suc k ≡ k + 1 = omega arith in e) in
      omega (arith, before, own, long, joined, same)

  pub frames_are : (i : ℕ) → i < slots → slot_frames mix i ≡ (got_at gs i).frames
  frames_are i h =
      ap (λ (s : SlotEntry). take (count_seen s.seen) (drop (taken_before (mix_entry state gs) i) (frames_in gs))) (slot_is i h)
      ∙ ap (λ n. take (count_seen (got_at gs i).slot.seen) (drop n (frames_in gs))) (taken_is i (omega arith))
      ∙ got_frames place gs i are (omega (arith, count))

  pub lines_are : (i : ℕ) → i < slots → slot_lines mix i ≡ got_lines i (got_at gs i)
  lines_are i h =
      let a = slot_is i h in let b = scale_is i h in let d = frames_are i h in
      let c : (bit_at (mix_entry state gs).mono i == 1) ≡ (got_at gs i).mono = ap (λ n. n == 1) (bit_is i h) ∙ digit_back (got_at gs i).mono in
      λ k. lines_by i (a k) (b k) (c k) (d k)

  pub first_lines_are : (n : ℕ) → n ≤ slots → flat_map (slot_lines mix) (range_with_len 0 n) ≡ each_from got_lines 0 (take n gs)
  first_lines_are zero h = refl
  first_lines_are (suc n) h =
      let one : suc n ≡ n + 1 = omega arith in
      ap (λ k. flat_map (slot_lines mix) (range_with_len 0 k)) one ∙ range-more (slot_lines mix) n
      ∙ ap (λ l. l ++ slot_lines mix n) (first_lines_are n (omega arith)) ∙ ap (λ l. each_from got_lines 0 (take n gs) ++ l) (lines_are n (omega arith))
      ∙ sym (next_lines gs n (omega (arith, count))) ∙ ap (λ k. each_from got_lines 0 (take k gs)) (sym one)

  pub mix_lines : slots_lines mix ≡ each_from got_lines 0 gs
  unfolding slots_lines
  mix_lines = first_lines_are slots (omega arith) ∙ ap (each_from got_lines 0) (take_all slots gs (omega (arith, count)))

  pub mix_taken : length (frames_in gs) ≡ taken_by (mix_entry state gs)
  unfolding taken_by
  mix_taken = ap (λ gs. length (frames_in gs)) (sym (take_all slots gs (omega (arith, count)))) ∙ sym (taken_is slots (omega arith))

  pub other_is : (i : ℕ) → i < slots → (((got_at gs i).slot ≡ absent) × ((got_at gs i).scale ≡ 0) × ((got_at gs i).mono ≡ false)) ⊎ IsSeen (got_at gs i).slot.seen → IsAbsent (mix_entry state gs) i ⊎ IsSeen (entry_slot (mix_entry state gs) i).seen
  other_is i h (inl gone) = inl (slot_is i h ∙ gone.0, scale_is i h ∙ gone.1, bit_is i h ∙ ap one_if gone.2)
  other_is i h (inr s) = inr (subst (λ (x : SlotEntry). IsSeen x.seen) (sym (slot_is i h)) s)

  pub mix_is : HeadFirst 0 gs → IsMixed place (mix_entry state gs)
  mix_is first = record {
    whole = mix_whole state gs count;
    submix = (
      subst IsSubmix (sym (slot_is 0 (lit< tt))) (head_first gs (omega (arith, count)) first).0,
      scale_is 0 (lit< tt) ∙ (head_first gs (omega (arith, count)) first).1,
      bit_is 0 (lit< tt) ∙ ap one_if (head_first gs (omega (arith, count)) first).2,
    );
    others = λ i low h. other_is i h (got_is place gs i are (omega (arith, count))).other;
    placed = λ i h.
        let g = got_is place gs i are (omega (arith, count)) in
        ap (λ (s : SlotEntry). s.first) (slot_is i h) ∙ g.first
        ∙ ap (λ n. place_of (place + n) (got_at gs i).slot.seen) (sym (taken_is i (omega arith)))
        ∙ ap (λ (s : SlotEntry). place_of (place + taken_before (mix_entry state gs) i) s.seen) (sym (slot_is i h));
  }
