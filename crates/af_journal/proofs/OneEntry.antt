-- An entry is told by no lines but its own.
use Rattle.std.proofs.Common.{◌≡◌, ◌⊎◌, inl, inr, ℕ, zero, suc, ◌+◌, ◌/◌, ◌%◌, ◌<◌, ◌≤◌, ◌^◌, ◌==◌, List, [], ◌∷◌, ◌++◌, length, map, take, drop, get_or, slice_index_or, Bool, true, false, cond, refl, ap, ◌∙◌, sym, subst, arith, All, append_assoc}
use Rattle.af_journal.proofs.Common.{All-cons, All-drop, All-nil, All-take, AreEntries, Cycle, EntrySeen, IsAbsent, IsEntry, IsFrame, IsMixed, IsSeen, Seen, SlotEntry, absent, bit_at, bit_at-lt, bit_at-suc, bit_at_lowest, count_seen, entry_slot, ext_get_or, flat_map, get_or-map-range_with_len, is_mixed, is_shown, is_spent, kind_of, length-drop, length-map, length-map-range_with_len, length-take-le, no_items, packed_word, place_of, pow-suc, range_with_len, shown, shown_if, slot_frames, slots, some_is, still_entry, take-add, take_all, taken_before, taken_by, taken_up}
use Rattle.af_base.specs.declared.log.Cycle.TheVariants as cycle
use Rattle.af_base.specs.declared.seen.Seen.TheVariants as seen
use Rattle.af_journal.specs.declared.line.Line.TheVariants as line
use Rattle.af_journal.specs.Lines.{Written, numbers}
use Rattle.af_journal.specs.Mixes.{SlotGot, got_lines, lines_by}
use Rattle.af_journal.specs.Texts.{each_from, entry_lines, slot_lines, slots_lines, words_after}
use Rattle.af_journal.proofs.EntriesLeft.{still_taken}
use Rattle.af_journal.proofs.OneText.{FromOn, IsNumbered, each-one, first-same, from-less, others-same, words-one}
use Rattle.af_journal.proofs.OneTurn.{same-frames}

-- ## A slot

-- a slot whose frames have no place
record IsTold (g : SlotGot) : Type 0 where
  other : ((g.slot ≡ absent) × (g.scale ≡ 0) × (g.mono ≡ false)) ⊎ IsSeen g.slot.seen
  first : g.slot.first ≡ 0
  count : length g.frames ≡ count_seen g.slot.seen
  are : All IsFrame g.frames

slot_in : Written → SlotGot
slot_in (numbers (line.Slot i scale mono gains flush rear answer)) = record { slot = record { gains = gains; flush = flush; rear = rear; seen = answer; first = 0 }; scale = scale; mono = mono; frames = [] }
slot_in _ = record { slot = absent; scale = 0; mono = false; frames = [] }

own_line : ℕ → SlotGot → Written
own_line i g = numbers (line.Slot i g.scale g.mono g.slot.gains g.slot.flush g.slot.rear g.slot.seen)

record AreSame (g h : SlotGot) : Type 0 where
  scale : g.scale ≡ h.scale
  mono : g.mono ≡ h.mono
  gains : g.slot.gains ≡ h.slot.gains
  flush : g.slot.flush ≡ h.slot.flush
  rear : g.slot.rear ≡ h.slot.rear
  answer : g.slot.seen ≡ h.slot.seen

same-slot : (i : ℕ) (g h : SlotGot) → own_line i g ≡ own_line i h → AreSame g h
unfolding slot_in own_line
same-slot i g h e = let p = ap slot_in e in record {
  scale = ap (λ (x : SlotGot). x.scale) p;
  mono = ap (λ (x : SlotGot). x.mono) p;
  gains = ap (λ (x : SlotGot). x.slot.gains) p;
  flush = ap (λ (x : SlotGot). x.slot.flush) p;
  rear = ap (λ (x : SlotGot). x.slot.rear) p;
  answer = ap (λ (x : SlotGot). x.slot.seen) p;
}

shown-lines : (i : ℕ) (g : SlotGot) (r : List Written) → IsSeen g.slot.seen → got_lines i g ++ r ≡ own_line i g ∷ (words_after (map packed_word g.frames) ++ r)
unfolding own_line
shown-lines i g r s = ap (λ b. cond b (own_line i g ∷ words_after (map packed_word g.frames)) [] ++ r) (shown_if g.slot.seen s)

absent-lines : (i : ℕ) (g : SlotGot) (r : List Written) → g.slot ≡ absent → got_lines i g ++ r ≡ r
absent-lines i g r gone = ap (λ (s : SlotEntry). lines_by i s g.scale g.mono g.frames ++ r) gone

no-slot : (n : ℕ) (g : SlotGot) (r rest : List Written) → FromOn (n + 1) r → r ≡ own_line n g ∷ rest → ⊥
unfolding own_line
no-slot n g r rest h e = let p : n + 1 ≤ n = subst (FromOn (n + 1)) e h in omega arith

got-one : (n : ℕ) (g h : SlotGot) (r s : List Written) → IsTold g → IsTold h → FromOn (n + 1) r → FromOn (n + 1) s → got_lines n g ++ r ≡ got_lines n h ++ s → (g ≡ h) × (r ≡ s)
got-one n g h r s p q rf sf e = by p.other q.other where
  frames : (c : g.slot.seen ≡ h.slot.seen) → map packed_word g.frames ≡ map packed_word h.frames → g.frames ≡ h.frames
  frames c m = same-frames g.frames h.frames p.are q.are m

  by : ((g.slot ≡ absent) × (g.scale ≡ 0) × (g.mono ≡ false)) ⊎ IsSeen g.slot.seen → ((h.slot ≡ absent) × (h.scale ≡ 0) × (h.mono ≡ false)) ⊎ IsSeen h.slot.seen → (g ≡ h) × (r ≡ s)
  by (inl a) (inl b) =
      let none = no_items g.frames (p.count ∙ ap (λ (s : SlotEntry). count_seen s.seen) a.0) in
      let gone = no_items h.frames (q.count ∙ ap (λ (s : SlotEntry). count_seen s.seen) b.0) in (
        (λ k. record { slot = (a.0 ∙ sym b.0) k; scale = (a.1 ∙ sym b.1) k; mono = (a.2 ∙ sym b.2) k; frames = (none ∙ sym gone) k }),
        sym (absent-lines n g r a.0) ∙ e ∙ absent-lines n h s b.0,
      )
  by (inl a) (inr b) = absurd (no-slot n h r _ rf (sym (absent-lines n g r a.0) ∙ e ∙ shown-lines n h s b))
  by (inr a) (inl b) = absurd (no-slot n g s _ sf (sym (absent-lines n h s b.0) ∙ sym e ∙ shown-lines n g r a))
  by (inr a) (inr b) =
      let gs = words_after (map packed_word g.frames) ++ r in let hs = words_after (map packed_word h.frames) ++ s in
      let all : own_line n g ∷ gs ≡ own_line n h ∷ hs = sym (shown-lines n g r a) ∙ e ∙ shown-lines n h s b in
      let own = same-slot n g h (first-same _ _ gs hs all) in
      let long : length (map packed_word g.frames) ≡ length (map packed_word h.frames) = length-map g.frames packed_word ∙ p.count ∙ ap count_seen own.answer ∙ sym q.count ∙ sym (length-map h.frames packed_word) in
      let more = words-one (map packed_word g.frames) (map packed_word h.frames) r s long (others-same _ _ gs hs all) in
      let first : g.slot.first ≡ h.slot.first = p.first ∙ sym q.first in
      let taken = frames own.answer more.0 in
      ((λ k. record { slot = record { gains = own.gains k; flush = own.flush k; rear = own.rear k; seen = own.answer k; first = first k }; scale = own.scale k; mono = own.mono k; frames = taken k }), more.1)

got-front : (n : ℕ) (b : Bool) (g : SlotGot) (r : List Written) → FromOn (n + 1) r → FromOn n (cond b (own_line n g ∷ words_after (map packed_word g.frames)) [] ++ r)
unfolding own_line
got-front n true g r h = omega arith
got-front n false g r h = from-less n (n + 1) r (omega arith) h

gots-numbered : IsNumbered IsTold got_lines
unfolding own_line
gots-numbered = record { from = λ n g r h. got-front n (is_shown g.slot.seen) g r h; one = got-one }

-- ## The slots of a mix

told_at : EntrySeen → ℕ → SlotGot
told_at e i =
    let slot = entry_slot e.entry i in
    record { slot = record { gains = slot.gains; flush = slot.flush; rear = slot.rear; seen = slot.seen; first = 0 }; scale = slice_index_or e.entry.scales i 0; mono = bit_at e.entry.mono i == 1; frames = slot_frames e i }

slots-each : (e : EntrySeen) (i n : ℕ) → flat_map (slot_lines e) (range_with_len i n) ≡ each_from got_lines i (map (told_at e) (range_with_len i n))
unfolding told_at
slots-each e i zero = refl
slots-each e i (suc n) = ap (λ l. slot_lines e i ++ l) (slots-each e (i + 1) n)

seen-by : (n : ℕ) (b : Bool) (s : Seen) → (n == 0) ≡ b → s ≡ cond b seen.Empty (seen.Frames n) → IsSeen s
seen-by n true s is e = subst IsSeen (sym e) tt
seen-by n false s is e = subst IsSeen (sym e) (some_is n is)

seen-shown : (n : ℕ) (s : Seen) → s ≡ shown n → IsSeen s
seen-shown n s e = seen-by n (n == 0) s refl e

module _ (place : ℕ) (e : EntrySeen) (m : IsMixed place e.entry) (count : length e.frames ≡ taken_by e.entry) (are : All IsFrame e.frames) where
  told-other : (i : ℕ) → i < slots → ((told_at e i).slot ≡ absent) × ((told_at e i).scale ≡ 0) × ((told_at e i).mono ≡ false) ⊎ IsSeen (told_at e i).slot.seen
  unfolding told_at
  told-other zero h = inr (seen-shown (count_seen (entry_slot e.entry 0).seen) (entry_slot e.entry 0).seen m.submix.0.2)
  told-other (suc i) h = by (m.others (suc i) (omega arith) h) where
    by : IsAbsent e.entry (suc i) ⊎ IsSeen (entry_slot e.entry (suc i)).seen → ((told_at e (suc i)).slot ≡ absent) × ((told_at e (suc i)).scale ≡ 0) × ((told_at e (suc i)).mono ≡ false) ⊎ IsSeen (told_at e (suc i)).slot.seen
    by (inl gone) = inl (ap (λ (s : SlotEntry). record { gains = s.gains; flush = s.flush; rear = s.rear; seen = s.seen; first = 0 }) gone.0, gone.1, ap (λ n. n == 1) gone.2)
    by (inr s) = inr s

  told-is : (i : ℕ) → i < slots → IsTold (told_at e i)
  unfolding told_at taken_by
  told-is i h =
      let below = taken_up e.entry i slots h in
      let rest = length-drop (taken_before e.entry i) e.frames in
      record {
        other = told-other i h;
        first = refl;
        count = length-take-le (count_seen (entry_slot e.entry i).seen) (drop (taken_before e.entry i) e.frames) (omega (arith, below, rest, count));
        are = All-take IsFrame (count_seen (entry_slot e.entry i).seen) (drop (taken_before e.entry i) e.frames) (All-drop IsFrame (taken_before e.entry i) e.frames are);
      }

  told-all : (i n : ℕ) → i + n ≤ slots → All IsTold (map (told_at e) (range_with_len i n))
  told-all i zero h = All-nil IsTold
  told-all i (suc n) h = All-cons IsTold (told_at e i) (map (told_at e) (range_with_len (i + 1) n)) (told-is i (omega arith)) (told-all (i + 1) n (omega arith))

-- numbers of the same bits
bit-same : (a b : ℕ) → a < 2 → b < 2 → (a == 1) ≡ (b == 1) → a ≡ b
bit-same zero zero h k e = refl
bit-same zero (suc zero) h k e = cc
bit-same (suc zero) zero h k e = cc
bit-same (suc zero) (suc zero) h k e = refl
bit-same (suc (suc a)) b h k e = absurd (omega arith)
bit-same zero (suc (suc b)) h k e = absurd (omega arith)
bit-same (suc zero) (suc (suc b)) h k e = absurd (omega arith)

halves : (a b : ℕ) → a % 2 ≡ b % 2 → a / 2 ≡ b / 2 → a ≡ b
halves a b h k = omega arith

bits-same : (n a b : ℕ) → a < 2 ^ n → b < 2 ^ n → ((i : ℕ) → i < n → (bit_at a i == 1) ≡ (bit_at b i == 1)) → a ≡ b
bits-same zero a b h k same = (let p : a < 1 = h in let q : b < 1 = k in omega arith)
bits-same (suc n) a b h k same =
    let p = pow-suc 2 n in
    let low : a % 2 ≡ b % 2 = sym (bit_at_lowest a) ∙ bit-same (bit_at a 0) (bit_at b 0) (bit_at-lt a 0) (bit_at-lt b 0) (same 0 (omega arith)) ∙ bit_at_lowest b in
    let high : a / 2 ≡ b / 2 = bits-same n (a / 2) (b / 2) (omega arith) (omega arith) (λ i lt. ap (λ n. n == 1) (sym (bit_at-suc a i)) ∙ same (suc i) (omega arith) ∙ ap (λ n. n == 1) (bit_at-suc b i)) in
    halves a b low high

-- two mixes whose slots tell the same
module _ (place : ℕ) (e f : EntrySeen) (m : IsMixed place e.entry) (n : IsMixed place f.entry) (e_count : length e.frames ≡ taken_by e.entry) (f_count : length f.frames ≡ taken_by f.entry)
    (same : (i : ℕ) → i < slots → told_at e i ≡ told_at f i) where
  seen-same : (i : ℕ) → i < slots → (entry_slot e.entry i).seen ≡ (entry_slot f.entry i).seen
  unfolding told_at
  seen-same i h = ap (λ (g : SlotGot). g.slot.seen) (same i h)

  before-same : (i : ℕ) → i ≤ slots → taken_before e.entry i ≡ taken_before f.entry i
  before-same zero h = refl
  before-same (suc i) h = let a = before-same i (omega arith) in let b = ap count_seen (seen-same i (omega arith)) in omega (arith, a, b)

  slot-same : (i : ℕ) → i < slots → entry_slot e.entry i ≡ entry_slot f.entry i
  unfolding told_at
  slot-same i h =
      let p = same i h in
      let first : (entry_slot e.entry i).first ≡ (entry_slot f.entry i).first =
      m.placed i h ∙ (λ k. place_of (place + before-same i (omega arith) k) (seen-same i h k)) ∙ sym (n.placed i h) in
      λ k. record { gains = (p k).slot.gains; flush = (p k).slot.flush; rear = (p k).slot.rear; seen = (p k).slot.seen; first = first k }

  slots-same : e.entry.slots ≡ f.entry.slots
  slots-same = ext_get_or absent e.entry.slots f.entry.slots (m.whole.0 ∙ sym n.whole.0) (λ k lt. slot-same k (let c = m.whole.0 in omega arith))

  scales-same : e.entry.scales ≡ f.entry.scales
  unfolding told_at
  scales-same = ext_get_or 0 e.entry.scales f.entry.scales (m.whole.1 ∙ sym n.whole.1) (λ k lt. ap (λ (g : SlotGot). g.scale) (same k (let c = m.whole.1 in omega arith)))

  mono-same : e.entry.mono ≡ f.entry.mono
  unfolding told_at
  mono-same = bits-same slots e.entry.mono f.entry.mono m.whole.2 n.whole.2 (λ i h. ap (λ (g : SlotGot). g.mono) (same i h))

  front-same : (i : ℕ) → i ≤ slots → take (taken_before e.entry i) e.frames ≡ take (taken_before f.entry i) f.frames
  unfolding told_at
  front-same zero h = refl
  front-same (suc i) h =
      take-add (taken_before e.entry i) (count_seen (entry_slot e.entry i).seen) e.frames
      ∙ (λ k. front-same i (omega arith) k ++ (same i (omega arith) k).frames)
      ∙ sym (take-add (taken_before f.entry i) (count_seen (entry_slot f.entry i).seen) f.frames)

  frames-same : e.frames ≡ f.frames
  unfolding taken_by
  frames-same = sym (take_all (taken_before e.entry slots) e.frames (omega (arith, e_count))) ∙ front-same slots (omega arith) ∙ take_all (taken_before f.entry slots) f.frames (omega (arith, f_count))

-- ## An entry

entry_in : Written → ℕ × ℕ
entry_in (numbers (line.Entry state kind)) = (state, kind)
entry_in _ = (0, 0)

same-entry : (state kind state' kind' : ℕ) → numbers (line.Entry state kind) ≡ numbers (line.Entry state' kind') → (state ≡ state') × (kind ≡ kind')
unfolding entry_in
same-entry state kind state' kind' e = let p = ap entry_in e in (ap (λ (x : ℕ × ℕ). x.0) p, ap (λ (x : ℕ × ℕ). x.1) p)

same-cycle : (a b : Cycle) → is_spent a ≡ false → is_spent b ≡ false → kind_of a ≡ kind_of b → a ≡ b
same-cycle cycle.Mixed cycle.Mixed h k e = refl
same-cycle cycle.Mixed (cycle.Spent n) h k e = cc
same-cycle cycle.Mixed _ h k e = absurd (omega (arith, e))
same-cycle cycle.Idle cycle.Idle h k e = refl
same-cycle cycle.Idle (cycle.Spent n) h k e = cc
same-cycle cycle.Idle _ h k e = absurd (omega (arith, e))
same-cycle cycle.Cold cycle.Cold h k e = refl
same-cycle cycle.Cold (cycle.Spent n) h k e = cc
same-cycle cycle.Cold _ h k e = absurd (omega (arith, e))
same-cycle cycle.Exit cycle.Exit h k e = refl
same-cycle cycle.Exit (cycle.Spent n) h k e = cc
same-cycle cycle.Exit _ h k e = absurd (omega (arith, e))
same-cycle (cycle.Spent n) b h k e = cc

-- the slots of two mixes of the same lines tell the same
told-same : (place : ℕ) (e f : EntrySeen) (r s : List Written) → IsMixed place e.entry → IsMixed place f.entry → length e.frames ≡ taken_by e.entry → length f.frames ≡ taken_by f.entry → All IsFrame e.frames → All IsFrame f.frames
    → FromOn slots r → FromOn slots s → slots_lines e ++ r ≡ slots_lines f ++ s → ((i : ℕ) → i < slots → told_at e i ≡ told_at f i) × (r ≡ s)
unfolding slots_lines
told-same place e f r s m n ec fc ea fa rf sf same =
    let es = map (told_at e) (range_with_len 0 slots) in let fs = map (told_at f) (range_with_len 0 slots) in
    let el = length-map-range_with_len (told_at e) 0 slots in let fl = length-map-range_with_len (told_at f) 0 slots in
    let from_is : slots ≡ 0 + length es = omega (arith, el) in
    let both = each-one IsTold got_lines gots-numbered 0 es fs r s (el ∙ sym fl) (told-all place e m ec ea 0 slots (omega arith)) (told-all place f n fc fa 0 slots (omega arith))
    (subst (λ k. FromOn k r) from_is rf) (subst (λ k. FromOn k s) from_is sf)
    (ap (λ l. l ++ r) (sym (slots-each e 0 slots)) ∙ same ∙ ap (λ l. l ++ s) (slots-each f 0 slots)) in (
      (λ i h. let z : 0 + i ≡ i = omega arith in sym (get_or-map-range_with_len (told_at e) 0 slots i i (told_at e i) h z) ∙ ap (λ l. get_or l i (told_at e i)) both.0 ∙ get_or-map-range_with_len (told_at f) 0 slots i i (told_at e i) h z),
      both.1,
    )

mix-one : (place : ℕ) (e f : EntrySeen) (r s : List Written) → e.entry.state ≡ f.entry.state → e.entry.cycle ≡ f.entry.cycle → IsMixed place e.entry → IsMixed place f.entry → length e.frames ≡ taken_by e.entry → length f.frames ≡ taken_by f.entry
    → All IsFrame e.frames → All IsFrame f.frames → FromOn slots r → FromOn slots s → slots_lines e ++ r ≡ slots_lines f ++ s → (e ≡ f) × (r ≡ s)
mix-one place e f r s state cyc m n ec fc ea fa rf sf same =
    let told = told-same place e f r s m n ec fc ea fa rf sf same in
    let a = slots-same place e f m n ec fc told.0 in let b = scales-same place e f m n ec fc told.0 in let d = mono-same place e f m n ec fc told.0 in let frames = frames-same place e f m n ec fc told.0 in
    ((λ k. record { entry = record { state = state k; cycle = cyc k; slots = a k; scales = b k; mono = d k }; frames = frames k }), told.1)

still-one : (e f : EntrySeen) → e.entry.state ≡ f.entry.state → e.entry.cycle ≡ f.entry.cycle → e.entry ≡ still_entry e.entry.state e.entry.cycle → f.entry ≡ still_entry f.entry.state f.entry.cycle
    → length e.frames ≡ taken_by e.entry → length f.frames ≡ taken_by f.entry → e ≡ f
still-one e f state cyc p q ec fc =
    let none = no_items e.frames (ec ∙ ap taken_by p ∙ sym (still_taken e.entry.state e.entry.cycle)) in
    let gone = no_items f.frames (fc ∙ ap taken_by q ∙ sym (still_taken f.entry.state f.entry.cycle)) in
    let entry : e.entry ≡ f.entry = p ∙ (λ k. still_entry (state k) (cyc k)) ∙ sym q in
    λ k. record { entry = entry k; frames = (none ∙ sym gone) k }

-- what is asked of an entry at a place
record IsAt (place : ℕ) (e : EntrySeen) : Type 0 where
  form : IsEntry place e.entry
  count : length e.frames ≡ taken_by e.entry
  are : All IsFrame e.frames

entry-one : (place : ℕ) (e f : EntrySeen) (r s : List Written) → IsAt place e → IsAt place f → FromOn slots r → FromOn slots s → entry_lines e ++ r ≡ entry_lines f ++ s → (e ≡ f) × (r ≡ s)
entry-one place e f r s p q rf sf same = by (is_mixed e.entry.cycle) refl where
  own : (e.entry.state ≡ f.entry.state) × (kind_of e.entry.cycle ≡ kind_of f.entry.cycle)
  own = same-entry e.entry.state (kind_of e.entry.cycle) f.entry.state (kind_of f.entry.cycle) (first-same _ _ (cond (is_mixed e.entry.cycle) (slots_lines e) [] ++ r) (cond (is_mixed f.entry.cycle) (slots_lines f) [] ++ s) same)

  cyc : e.entry.cycle ≡ f.entry.cycle
  cyc = same-cycle e.entry.cycle f.entry.cycle p.form.kept q.form.kept own.1

  more : cond (is_mixed e.entry.cycle) (slots_lines e) [] ++ r ≡ cond (is_mixed f.entry.cycle) (slots_lines f) [] ++ s
  more = others-same _ _ (cond (is_mixed e.entry.cycle) (slots_lines e) [] ++ r) (cond (is_mixed f.entry.cycle) (slots_lines f) [] ++ s) same

  by : (b : Bool) → is_mixed e.entry.cycle ≡ b → (e ≡ f) × (r ≡ s)
  by true is =
      let too : is_mixed f.entry.cycle ≡ true = ap is_mixed (sym cyc) ∙ is in
      mix-one place e f r s own.0 cyc (p.form.mixes is) (q.form.mixes too) p.count q.count p.are q.are rf sf (ap (λ b. cond b (slots_lines e) [] ++ r) (sym is) ∙ more ∙ ap (λ b. cond b (slots_lines f) [] ++ s) too)
  by false is =
      let too : is_mixed f.entry.cycle ≡ false = ap is_mixed (sym cyc) ∙ is in
      (still-one e f own.0 cyc (p.form.still is) (q.form.still too) p.count q.count, ap (λ b. cond b (slots_lines e) [] ++ r) (sym is) ∙ more ∙ ap (λ b. cond b (slots_lines f) [] ++ s) too)

-- ## Entries

-- a round or the end
abbrev pub AtRound : List Written → Type 0
AtRound r = (r ≡ []) ⊎ ((rest : List Written) × (r ≡ numbers line.Round ∷ rest))

pub round-from : (n : ℕ) (r : List Written) → AtRound r → FromOn n r
round-from n r (inl none) = subst (FromOn n) (sym none) tt
round-from n r (inr some) = subst (FromOn n) (sym some.1) tt

entries-from : (n : ℕ) (es : List EntrySeen) (r : List Written) → FromOn n r → FromOn n (flat_map entry_lines es ++ r)
entries-from n [] r h = h
entries-from n (e ∷ es) r h = tt

no-entry : (e : EntrySeen) (r rest : List Written) → AtRound r → r ≡ entry_lines e ++ rest → ⊥
no-entry e r rest (inl none) same = (let p = sym none ∙ same in cc)
no-entry e r rest (inr some) same = (let p = first-same _ _ some.0 _ (sym some.1 ∙ same) in cc)

pub entries-one : (place : ℕ) (es fs : List EntrySeen) (r s : List Written) → AreEntries place es → AreEntries place fs → AtRound r → AtRound s → flat_map entry_lines es ++ r ≡ flat_map entry_lines fs ++ s → (es ≡ fs) × (r ≡ s)
entries-one place [] [] r s p q h k same = (refl, same)
entries-one place [] (f ∷ fs) r s p q h k same = absurd (no-entry f r (flat_map entry_lines fs ++ s) h (same ∙ append_assoc (entry_lines f) (flat_map entry_lines fs) s))
entries-one place (e ∷ es) [] r s p q h k same = absurd (no-entry e s (flat_map entry_lines es ++ r) k (sym same ∙ append_assoc (entry_lines e) (flat_map entry_lines es) r))
entries-one place (e ∷ es) (f ∷ fs) r s p q h k same =
    let er = flat_map entry_lines es ++ r in let fr = flat_map entry_lines fs ++ s in
    let own = entry-one place e f er fr (record { form = p.0; count = p.1; are = p.2 }) (record { form = q.0; count = q.1; are = q.2 }) (entries-from slots es r (round-from slots r h)) (entries-from slots fs s (round-from slots s k))
    (sym (append_assoc (entry_lines e) (flat_map entry_lines es) r) ∙ same ∙ append_assoc (entry_lines f) (flat_map entry_lines fs) s) in
    let place_is : place + length f.frames ≡ place + length e.frames = ap (λ (e : EntrySeen). place + length e.frames) (sym own.0) in
    let more = entries-one (place + length e.frames) es fs r s p.3 (subst (λ n. AreEntries n fs) place_is q.3) h k own.1 in
    ((λ k. own.0 k ∷ more.0 k), more.1)
