-- A mix is read slot by slot.
use Rattle.std.proofs.Common.{◌≡◌, inl, inr, ℕ, zero, suc, ◌+◌, ◌-◌, ◌*◌, ◌<◌, ◌^◌, List, [], ◌∷◌, ◌++◌, length, map, replicate, slice_set, slice_index_or, ◌==◌, ◌&&◌, ◌⊎◌, not, lit<, cond, Bool, true, false, refl, ap, ◌∙◌, sym, subst, arith, append-nil, append_assoc, length-append}
use Rattle.af_journal.proofs.Common.{All-nil, Cycle, CycleEntry, Frame, IsFrame, IsSeen, Seen, SlotEntry, absent, bit_at, both, entry_slot, flat_map-append, is_mixed, is_spent, kind_of, length-map, map_last, mul_assoc, one_if, packed_word, pow-suc, shown_if, slots, still_entry}
use Rattle.af_base.specs.declared.log.Cycle.TheVariants as cycle
use Rattle.af_journal.specs.declared.line.Line.TheVariants as line
use Rattle.af_journal.specs.Lines.{Written, numbers}
use Rattle.af_journal.specs.Mixes.{AreGots, IsGot, SlotGot, frames_in, got_lines, marks, mix_entry}
use Rattle.af_journal.specs.Stages.{is_submix, shows_submix}
use Rattle.af_journal.specs.Taken.{AddsEntry, Leaves, more_lines}
use Rattle.af_journal.specs.Texts.{each_from, slots_lines, words_after}
use Rattle.af_journal.proofs.Leaving.{leaves-as, leaves-each, leaves-none, leaves-then}
use Rattle.af_journal.proofs.EntriesLeft.{differ, slot_may, still_taken}
use Rattle.af_journal.proofs.Spelled.{digit_back}
use Rattle.af_journal.proofs.MixLeft.{HeadFirst, IsFirst, all_frames, bit_is, got_at, marks_small, mix_is, mix_lines, mix_taken, scale_is, slot_is}

-- what was read of a mix before a slot
pub record IsMixFront (state place slot : ℕ) (before frames : List Frame) (start rest : List ℕ) (entry : CycleEntry) : Type 0 where
  pub gots : List SlotGot
  pub count : length gots ≡ slot
  pub are : AreGots place gots
  pub frames_are : frames ≡ before ++ frames_in gots
  pub lines : Leaves start (each_from got_lines 0 gots) rest
  pub slots_are : entry.slots ≡ map (λ (g : SlotGot). g.slot) gots ++ replicate (slots - slot) absent
  pub scales_are : entry.scales ≡ map (λ (g : SlotGot). g.scale) gots ++ replicate (slots - slot) 0
  pub mono_is : entry.mono ≡ marks (map (λ (g : SlotGot). g.mono) gots)
  pub others : (entry.state ≡ state) × (entry.cycle ≡ cycle.Mixed)

none-marked : 0 ≡ marks []
unfolding marks
none-marked = refl

-- nothing was read yet
pub front-none : (state : ℕ) (before : List Frame) (start : List ℕ) → IsMixFront state (length before) 0 before before start start (still_entry state cycle.Mixed)
front-none state before start = record { gots = []; count = refl; are = tt; frames_are = sym (append-nil before); lines = leaves-none start; slots_are = refl; scales_are = refl; mono_is = none-marked; others = (refl, refl) }

-- an item in the place behind some others
pub set_behind : {X : Type 0} (xs ys : List X) (y z : X) (n : ℕ) → length xs ≡ n → slice_set (xs ++ y ∷ ys) n z ≡ xs ++ z ∷ ys
set_behind [] ys y z zero e = refl
set_behind [] ys y z (suc n) e = cc
set_behind (x ∷ xs) ys y z zero e = cc
set_behind (x ∷ xs) ys y z (suc n) e = ap (λ l. x ∷ l) (set_behind xs ys y z n (omega arith))

-- an item in the place behind some others, if equal ones stand behind
pub set_next : {X : Type 0} (f : SlotGot → X) (x : X) (gots : List SlotGot) (g : SlotGot) (n : ℕ) → length gots ≡ n → n < slots → slice_set (map f gots ++ replicate (slots - n) x) n (f g) ≡ map f (gots ++ g ∷ []) ++ replicate (slots - (n + 1)) x
set_next f x gots g n count lt =
    let one : slots - n ≡ suc (slots - (n + 1)) = omega arith in
    let long : length (map f gots) ≡ n = length-map gots f ∙ count in
    ap (λ k. slice_set (map f gots ++ replicate k x) n (f g)) one
    ∙ set_behind (map f gots) (replicate (slots - (n + 1)) x) x (f g) n long
    ∙ sym (append_assoc (map f gots) (f g ∷ []) (replicate (slots - (n + 1)) x))
    ∙ ap (λ l. l ++ replicate (slots - (n + 1)) x) (sym (map_last f gots g))

-- the marks of one slot more
marks-step : (x n m b p q : ℕ) → n ≡ m + b * p → q ≡ p * 2 → x + 2 * n ≡ x + 2 * m + b * q
marks-step x n m b p q e h = let r : b * q ≡ b * p * 2 = ap (λ q. b * q) h ∙ sym (mul_assoc b p 2) in omega arith

pub marks-more : (bs : List Bool) (b : Bool) → marks (bs ++ b ∷ []) ≡ marks bs + one_if b * 2 ^ length bs
unfolding marks
marks-more [] b = omega arith
marks-more (x ∷ xs) b = marks-step (one_if x) (marks (xs ++ b ∷ [])) (marks xs) (one_if b) (2 ^ length xs) (2 ^ length (x ∷ xs)) (marks-more xs b) (pow-suc 2 (length xs))

-- the slots so far and one more
pub are-more : (place : ℕ) (gots : List SlotGot) (g : SlotGot) → AreGots place gots → IsGot (place + length (frames_in gots)) g → AreGots place (gots ++ g ∷ [])
are-more place [] g are is = (subst (λ n. IsGot n g) (let e : place + 0 ≡ place = omega arith in e) is, tt)
are-more place (x ∷ xs) g are is =
    let n = length-append x.frames (frames_in xs) in
    (are.0, are-more (place + length x.frames) xs g are.1 (subst (λ n. IsGot n g) (let e : place + length (x.frames ++ frames_in xs) ≡ place + length x.frames + length (frames_in xs) = omega arith in e) is))

pub frames-more : (gots : List SlotGot) (g : SlotGot) → frames_in (gots ++ g ∷ []) ≡ frames_in gots ++ g.frames
frames-more gots g = flat_map-append (λ (g : SlotGot). g.frames) gots (g ∷ []) ∙ ap (λ l. frames_in gots ++ l) (append-nil g.frames)

-- one slot more is read
pub front-more : (state n : ℕ) (before frames more : List Frame) (start mid rest : List ℕ) (entry next : CycleEntry) (g : SlotGot) → IsMixFront state (length before) n before frames start mid entry → n < slots
    → IsGot (length frames) g → more ≡ frames ++ g.frames → Leaves mid (got_lines n g) rest
    → next.slots ≡ slice_set entry.slots n g.slot → next.scales ≡ slice_set entry.scales n g.scale → next.mono ≡ entry.mono + one_if g.mono * 2 ^ n → next.state ≡ entry.state → next.cycle ≡ entry.cycle
    → IsMixFront state (length before) (n + 1) before more start rest next
front-more state n before frames more start mid rest entry next g m lt is frames_are lines slots_are scales_are mono_is state_is cycle_is =
    let place : length frames ≡ length before + length (frames_in m.gots) = ap length m.frames_are ∙ length-append before (frames_in m.gots) in
    let bits : length (map (λ (g : SlotGot). g.mono) m.gots) ≡ n = length-map m.gots (λ (g : SlotGot). g.mono) ∙ m.count in
    record {
      gots = m.gots ++ g ∷ [];
      count = (let e = length-append m.gots (g ∷ []) in let h = m.count in omega arith);
      are = are-more (length before) m.gots g m.are (subst (λ k. IsGot k g) place is);
      frames_are = frames_are ∙ ap (λ l. l ++ g.frames) m.frames_are ∙ append_assoc before (frames_in m.gots) g.frames ∙ ap (λ l. before ++ l) (sym (frames-more m.gots g));
      lines = leaves-each got_lines start mid rest m.gots g n m.count m.lines lines;
      slots_are = slots_are ∙ ap (λ (l : List SlotEntry). slice_set l n g.slot) m.slots_are ∙ set_next (λ (g : SlotGot). g.slot) absent m.gots g n m.count lt;
      scales_are = scales_are ∙ ap (λ (l : List ℕ). slice_set l n g.scale) m.scales_are ∙ set_next (λ (g : SlotGot). g.scale) 0 m.gots g n m.count lt;
      mono_is = mono_is ∙ ap (λ k. k + one_if g.mono * 2 ^ n) m.mono_is ∙ ap (λ k. marks (map (λ (g : SlotGot). g.mono) m.gots) + one_if g.mono * 2 ^ k) (sym bits) ∙ sym (marks-more (map (λ (g : SlotGot). g.mono) m.gots) g.mono)
          ∙ ap marks (sym (map_last (λ (g : SlotGot). g.mono) m.gots g));
      others = (state_is ∙ m.others.0, cycle_is ∙ m.others.1);
    }

-- an item behind some others that is set to what it is
keep_next : {X : Type 0} (l : List X) (f : SlotGot → X) (x : X) (gots : List SlotGot) (n : ℕ) → length gots ≡ n → n < slots → l ≡ map f gots ++ replicate (slots - n) x → l ≡ slice_set l n x
keep_next l f x gots n count lt is =
    let one : slots - n ≡ suc (slots - (n + 1)) = omega arith in
    let long : length (map f gots) ≡ n = length-map gots f ∙ count in
    let whole : l ≡ map f gots ++ x ∷ replicate (slots - (n + 1)) x = is ∙ ap (λ k. map f gots ++ replicate k x) one in
    whole ∙ (sym (set_behind (map f gots) (replicate (slots - (n + 1)) x) x x n long) ∙ ap (λ l. slice_set l n x) (sym whole))

-- one slot more has no line
pub front-skip : (state n : ℕ) (before frames : List Frame) (start rest : List ℕ) (entry : CycleEntry) → IsMixFront state (length before) n before frames start rest entry → n < slots → IsMixFront state (length before) (n + 1) before frames start rest entry
front-skip state n before frames start rest entry m lt =
    let none : SlotGot = record { slot = absent; scale = 0; mono = false; frames = [] } in
    front-more state n before frames frames start rest rest entry entry none m lt (record { other = inl (refl, refl, refl); first = refl; count = refl; are = All-nil IsFrame }) (sym (append-nil frames)) (leaves-none rest)
    (keep_next entry.slots (λ (g : SlotGot). g.slot) absent m.gots n m.count lt m.slots_are) (keep_next entry.scales (λ (g : SlotGot). g.scale) 0 m.gots n m.count lt m.scales_are) (omega arith) refl refl

-- the same, by equal parts
pub front-same : (state place n : ℕ) (before frames more : List Frame) (start rest left : List ℕ) (entry next : CycleEntry) → more ≡ frames → left ≡ rest → next ≡ entry
    → IsMixFront state place n before frames start rest entry → IsMixFront state place n before more start left next
front-same state place n before frames more start rest left entry next a b e m =
    subst (λ (x : List Frame). IsMixFront state place n before x start left next) (sym a)
    (subst (λ (x : List ℕ). IsMixFront state place n before frames start x next) (sym b) (subst (λ (x : CycleEntry). IsMixFront state place n before frames start rest x) (sym e) m))

-- the marks so far lie below the slot's
pub front-below : (state place n : ℕ) (before frames : List Frame) (start rest : List ℕ) (entry : CycleEntry) → IsMixFront state place n before frames start rest entry → entry.mono < 2 ^ n
front-below state place n before frames start rest entry m =
    let bits : length (map (λ (g : SlotGot). g.mono) m.gots) ≡ n = length-map m.gots (λ (g : SlotGot). g.mono) ∙ m.count in
    subst (λ k. entry.mono < 2 ^ k) bits (subst (λ k. k < 2 ^ length (map (λ (g : SlotGot). g.mono) m.gots)) (sym m.mono_is) (marks_small (map (λ (g : SlotGot). g.mono) m.gots)))

-- the whole entry, once all slots were read
pub mix-whole : (state place : ℕ) (before frames : List Frame) (start rest : List ℕ) (entry : CycleEntry) (m : IsMixFront state place slots before frames start rest entry) → entry ≡ mix_entry state m.gots
unfolding mix_entry
mix-whole state place before frames start rest entry m =
    let a : entry.slots ≡ map (λ (g : SlotGot). g.slot) m.gots = m.slots_are ∙ append-nil _ in
    let b : entry.scales ≡ map (λ (g : SlotGot). g.scale) m.gots = m.scales_are ∙ append-nil _ in
    λ k. record { state = m.others.0 k; cycle = m.others.1 k; slots = a k; scales = b k; mono = m.mono_is k }

-- ## An entry

-- an entry that isn't a mix
pub still-adds : (frames : List Frame) (rest : List ℕ) (state : ℕ) (cy : Cycle) → is_spent cy ≡ false → is_mixed cy ≡ false
    → (taken : List Frame) × AddsEntry frames (record { entry = still_entry state cy; frames = taken }) frames × Leaves rest (more_lines (record { entry = still_entry state cy; frames = taken })) rest
still-adds frames rest state cy kept still = (
  [],
  record {
    frames_are = sym (append-nil frames);
    form = record { kept = kept; mixes = λ m. absurd (differ (sym still ∙ m)); still = λ _. refl };
    count = still_taken state cy;
    samples = All-nil IsFrame;
  },
  leaves-as rest rest [] (more_lines (record { entry = still_entry state cy; frames = [] })) (ap (λ b. cond b (slots_lines (record { entry = still_entry state cy; frames = [] })) []) (sym still)) (leaves-none rest),
)

-- the first slot is the submix
seen-first : (place : ℕ) (g : SlotGot) → IsGot place g → shows_submix g.slot.seen ≡ true → IsSeen g.slot.seen
seen-first place g is shows = by is.other where
  by : ((g.slot ≡ absent) × (g.scale ≡ 0) × (g.mono ≡ false)) ⊎ IsSeen g.slot.seen → IsSeen g.slot.seen
  by (inl gone) = absurd (differ (ap (λ (s : SlotEntry). shows_submix s.seen) (sym gone.0) ∙ shows))
  by (inr s) = s

submix-shows : (scale gains flush : ℕ) (mono : Bool) (answer : Seen) → is_submix scale mono gains flush answer ≡ true → shows_submix answer ≡ true
submix-shows scale gains flush mono answer e =
    let b = both (scale == 4096) (not mono && ((gains == 268439552) && ((flush == 0) && shows_submix answer))) e in
    let c = both (not mono) ((gains == 268439552) && ((flush == 0) && shows_submix answer)) b.1 in
    let d = both (gains == 268439552) ((flush == 0) && shows_submix answer) c.1 in
    (both (flush == 0) (shows_submix answer) d.1).1

first-is : (place : ℕ) (g : SlotGot) → IsGot place g → is_submix g.scale g.mono g.slot.gains g.slot.flush g.slot.seen ≡ true → IsFirst g
first-is place g is e =
    let s = seen-first place g is (submix-shows g.scale g.slot.gains g.slot.flush g.mono g.slot.seen e) in
    let u = (slot_may 0 0 g.scale g.slot.gains g.slot.flush g.mono g.slot.seen true refl s e).unity refl in
    ((u.1, u.2, u.3), u.4, u.5)

head-is : (place : ℕ) (gots : List SlotGot) → AreGots place gots
    → is_submix (got_at gots 0).scale (got_at gots 0).mono (got_at gots 0).slot.gains (got_at gots 0).slot.flush (got_at gots 0).slot.seen ≡ true → HeadFirst 0 gots
unfolding got_at
head-is place [] are e = tt
head-is place (g ∷ gs) are e = λ _. first-is place g are.0 e

mix-made : (state : ℕ) (before after : List Frame) (gots : List SlotGot) → length gots ≡ slots → AreGots (length before) gots → after ≡ before ++ frames_in gots → HeadFirst 0 gots
    → AddsEntry before (record { entry = mix_entry state gots; frames = frames_in gots }) after
unfolding mix_entry
mix-made state before after gots count are frames first = record {
  frames_are = frames;
  form = record { kept = refl; mixes = λ _. mix_is state (length before) gots count are first; still = λ m. absurd (differ (sym m)) };
  count = mix_taken state (length before) gots count are;
  samples = all_frames (length before) gots are;
}

mix-lines : (state place : ℕ) (gots : List SlotGot) → length gots ≡ slots → AreGots place gots → more_lines (record { entry = mix_entry state gots; frames = frames_in gots }) ≡ each_from got_lines 0 gots
unfolding mix_entry
mix-lines state place gots count are = mix_lines state place gots count are

-- a mix whose first slot is the submix
pub mix-adds : (state : ℕ) (before after : List Frame) (start rest : List ℕ) (entry : CycleEntry) (gots : List SlotGot) → length gots ≡ slots → AreGots (length before) gots → entry ≡ mix_entry state gots
    → after ≡ before ++ frames_in gots → Leaves start (each_from got_lines 0 gots) rest
    → is_submix (slice_index_or entry.scales 0 0) (bit_at entry.mono 0 == 1) (entry_slot entry 0).gains (entry_slot entry 0).flush (entry_slot entry 0).seen ≡ true
    → (taken : List Frame) × AddsEntry before (record { entry = entry; frames = taken }) after × Leaves start (more_lines (record { entry = entry; frames = taken })) rest
mix-adds state before after start rest entry gots count are is frames lines submix =
    let place = length before in
    let a = slot_is state place gots count are 0 (lit< tt) in
    let b = scale_is state place gots count are 0 (lit< tt) in
    let d : (bit_at (mix_entry state gots).mono 0 == 1) ≡ (got_at gots 0).mono = ap (λ n. n == 1) (bit_is state place gots count are 0 (lit< tt)) ∙ digit_back (got_at gots 0).mono in
    let own : is_submix (got_at gots 0).scale (got_at gots 0).mono (got_at gots 0).slot.gains (got_at gots 0).slot.flush (got_at gots 0).slot.seen ≡ true =
    (λ k. is_submix (sym b k) (sym d k) (sym a k).gains (sym a k).flush (sym a k).seen)
    ∙ ap (λ (e : CycleEntry). is_submix (slice_index_or e.scales 0 0) (bit_at e.mono 0 == 1) (entry_slot e 0).gains (entry_slot e 0).flush (entry_slot e 0).seen) (sym is) ∙ submix in
    let first = head-is place gots are own in
    let made : (taken : List Frame) × AddsEntry before (record { entry = mix_entry state gots; frames = taken }) after × Leaves start (more_lines (record { entry = mix_entry state gots; frames = taken })) rest =
    (frames_in gots, mix-made state before after gots count are frames first, leaves-as start rest (each_from got_lines 0 gots) (more_lines (record { entry = mix_entry state gots; frames = frames_in gots })) (sym (mix-lines state place gots count are)) lines) in
    subst (λ (e : CycleEntry). (taken : List Frame) × AddsEntry before (record { entry = e; frames = taken }) after × Leaves start (more_lines (record { entry = e; frames = taken })) rest) (sym is) made

-- a slot and its words
pub leaves-slot : (a b d : List ℕ) (slot own : ℕ) (g : SlotGot) → own ≡ slot → IsSeen g.slot.seen → Leaves a (numbers (line.Slot own g.scale g.mono g.slot.gains g.slot.flush g.slot.rear g.slot.seen) ∷ []) b
    → Leaves b (words_after (map packed_word g.frames)) d → Leaves a (got_lines slot g) d
leaves-slot a b d slot own g same seen one two =
    let own_line : ℕ → List Written = λ n. numbers (line.Slot n g.scale g.mono g.slot.gains g.slot.flush g.slot.rear g.slot.seen) ∷ words_after (map packed_word g.frames) in
    leaves-as a d (own_line own) (got_lines slot g) (ap own_line same ∙ ap (λ b. cond b (own_line slot) []) (sym (shown_if g.slot.seen seen)))
    (leaves-then a b d (numbers (line.Slot own g.scale g.mono g.slot.gains g.slot.flush g.slot.rear g.slot.seen) ∷ []) (words_after (map packed_word g.frames)) one two)

-- a mix by its state
pub mix-state : (state : ℕ) (entry : CycleEntry) (gots : List SlotGot) → entry ≡ mix_entry state gots → (entry.state ≡ state) × (kind_of entry.cycle ≡ 0)
unfolding mix_entry
mix-state state entry gots is = (ap (λ (e : CycleEntry). e.state) is, ap (λ (e : CycleEntry). kind_of e.cycle) is)
