-- What an entry adds to what is left of a journal's text, and what a slot that may come keeps.
use Rattle.std.proofs.Common.{◌≡◌, ℕ, zero, suc, ◌+◌, ◌<◌, ◌≤◌, ◌==◌, ◌&&◌, nat_le, nat_lt, not, List, [], ◌∷◌, ◌++◌, length, Bool, true, false, cond, refl, ap, ◌∙◌, sym, subst, arith}
use Rattle.af_journal.proofs.Common.{All-nil, AreEntries, Cycle, EntrySeen, IsEntry, IsFrame, IsSeen, Seen, SlotEntry, absent, both, count_seen, entries_of, entry_slot, equal_is, flat_map, get_or-replicate, is_mixed, is_spent, kind_of, nat_tests, not_true, not_zero, shown, slots, some_is, still_entry, taken_before, taken_by, zero_is}
use Rattle.af_base.specs.declared.seen.Seen.TheVariants as seen
use Rattle.af_journal.specs.declared.line.Line.TheVariants as line
use Rattle.af_journal.specs.declared.stage.Stage.{Stage}
use Rattle.af_journal.specs.declared.stage.Stage.TheVariants as stage
use Rattle.af_journal.specs.Lines.{Written, numbers}
use Rattle.af_journal.specs.Stages.{is_next, is_submix, shows_submix}
use Rattle.af_journal.specs.Texts.{each_from, entry_lines, round_lines, slots_lines}
use Rattle.af_journal.proofs.RoundsLeft.{RoundsLeft, EntriesLeft, EntriesDue, FastLeft, TakesLeft, TakeLeft, TurnLeft, LookLeft, ClientsLeft, CallsLeft, CallDue}
use Rattle.af_journal.specs.Mixes.{got_lines, frames_in, mix_entry}
use Rattle.af_journal.proofs.MixLeft.{SlotsLeft, SlotLeft, all_frames, mix_lines, mix_taken, mix_is}

-- ## Entries

pub still_slot : (state i : ℕ) (cy : Cycle) → i < slots → entry_slot (still_entry state cy) i ≡ absent
still_slot state i cy h = get_or-replicate slots i absent absent h

pub still_before : (state : ℕ) (cy : Cycle) (n : ℕ) → n ≤ slots → taken_before (still_entry state cy) n ≡ 0
still_before state cy zero h = refl
still_before state cy (suc n) h =
    let a = still_before state cy n (omega arith) in
    let b : count_seen (entry_slot (still_entry state cy) n).seen ≡ 0 = ap (λ (s : SlotEntry). count_seen s.seen) (still_slot state n cy (omega arith)) in omega (arith, a, b)

pub still_taken : (state : ℕ) (cy : Cycle) → 0 ≡ taken_by (still_entry state cy)
unfolding taken_by
still_taken state cy = sym (still_before state cy slots (omega arith))

pub differ : ◌≡◌ {A = Bool} false true → ⊥
differ e = cc

pub with_still : (tracks place state : ℕ) (cy : Cycle) (ws : List Written) → is_spent cy ≡ false → is_mixed cy ≡ false → EntriesLeft tracks place ws → EntriesDue tracks place (numbers (line.Entry state (kind_of cy)) ∷ ws)
with_still tracks place state cy ws kept still l =
    let e : EntrySeen = record { entry = still_entry state cy; frames = [] } in
    let is : IsEntry place (still_entry state cy) = record { kept = kept; mixes = λ m. absurd (let bad : ◌≡◌ {A = Bool} false true = sym still ∙ m in differ bad); still = λ _. refl } in
    record {
      e = e;
      es = l.es;
      rounds = l.rounds;
      form = l.form;
      are = (is, still_taken state cy, All-nil IsFrame, subst (λ n. AreEntries n (l.es ++ entries_of l.rounds)) (let n : place ≡ place + 0 = omega arith in n) l.are);
      lines = ap (λ x. numbers (line.Entry state (kind_of cy)) ∷ x) l.lines ∙ ap (λ b. (numbers (line.Entry state (kind_of cy)) ∷ cond b (slots_lines e) []) ++ (flat_map entry_lines l.es ++ flat_map round_lines l.rounds)) (sym still);
    }

pub with_mix : (tracks place state : ℕ) (ws : List Written) → SlotsLeft tracks 0 place ws → EntriesDue tracks place (numbers (line.Entry state 0) ∷ ws)
unfolding mix_entry
with_mix tracks place state ws s =
    let count : length s.gots ≡ slots = (let n = s.count in omega arith) in
    let e : EntrySeen = record { entry = mix_entry state s.gots; frames = frames_in s.gots } in
    let is : IsEntry place (mix_entry state s.gots) = record { kept = refl; mixes = λ _. mix_is state place s.gots count s.are s.first; still = λ m. absurd (differ (sym m)) } in
    record {
      e = e;
      es = s.entries.es;
      rounds = s.entries.rounds;
      form = s.entries.form;
      are = (is, mix_taken state place s.gots count s.are, all_frames place s.gots s.are, s.entries.are);
      lines = ap (λ x. numbers (line.Entry state 0) ∷ x) (s.lines ∙ ap (λ l. each_from got_lines 0 s.gots ++ l) s.entries.lines ∙ ap (λ l. l ++ (flat_map entry_lines s.entries.es ++ flat_map round_lines s.entries.rounds)) (sym (mix_lines state place s.gots count s.are)));
    }

-- ## Any stage

abbrev pub Rest : ℕ → ℕ → Stage → List Written → Type 0
Rest tracks place stage.Nothing ws = RoundsLeft tracks place ws
Rest tracks place (stage.Clients low) ws = ClientsLeft tracks low place ws
Rest tracks place (stage.Calls low) ws = CallsLeft tracks low place ws
Rest tracks place (stage.Client low) ws = CallDue tracks low place ws
Rest tracks place (stage.Turn low part) ws = TurnLeft tracks low part place ws
Rest tracks place (stage.Look track) ws = LookLeft tracks track place ws
Rest tracks place (stage.Takes low) ws = TakesLeft tracks low place ws
Rest tracks place (stage.Take due low) ws = TakeLeft tracks due low place ws
Rest tracks place stage.Turned ws = FastLeft tracks place ws
Rest tracks place stage.Fast ws = EntriesDue tracks place ws
Rest tracks place (stage.Mixed low) ws = SlotsLeft tracks low place ws
Rest tracks place (stage.Slot due low) ws = SlotLeft tracks due low place ws
Rest tracks place stage.Entries ws = EntriesLeft tracks place ws

pub next_of : (tracks low track : ℕ) → is_next tracks low track ≡ true → (low ≤ track) × (track < tracks)
next_of tracks low track e = grind (arith, nat_tests)

pub frames_two : (s : Seen) → (count_seen s == 2) ≡ true → s ≡ seen.Frames 2
frames_two (seen.Frames n) e = ap seen.Frames (equal_is n 2 e)
frames_two _ e = cc

pub no_frames : (n : ℕ) → 1 ≤ n → seen.Frames n ≡ shown n
no_frames n h = ap (λ b. cond b seen.Empty (seen.Frames n)) (sym (not_zero n h))

pub as_shown : (s : Seen) → IsSeen s → shows_submix s ≡ true → s ≡ shown (count_seen s)
as_shown seen.Absent h e = absurd h
as_shown (seen.Frames n) h e = no_frames n h
as_shown seen.Empty h e = refl
as_shown (seen.Flushed n) h e = cc
as_shown (seen.Shut a b) h e = cc

-- what a slot that may come keeps
pub record SlotMay (low i scale gains flush : ℕ) (mono : Bool) (answer : Seen) : Type 0 where
  pub from_low : low ≤ i
  pub inside : i < slots
  pub unity : low ≡ 0 → (i ≡ 0) × (gains ≡ 268439552) × (flush ≡ 0) × (answer ≡ shown (count_seen answer)) × (scale ≡ 4096) × (mono ≡ false)

pub slot_order : (low i : ℕ) → nat_le low i ≡ true → nat_lt i 32 ≡ true → (low ≤ i) × (i < 32)
slot_order low i a b = grind (arith, nat_tests)

pub slot_may : (low i scale gains flush : ℕ) (mono : Bool) (answer : Seen) (b : Bool) → (low == 0) ≡ b → IsSeen answer
    → cond b ((i == 0) && is_submix scale mono gains flush answer) (nat_le low i && nat_lt i 32) ≡ true → SlotMay low i scale gains flush mono answer
slot_may low i scale gains flush mono answer true z s e =
    let zero_low : low ≡ 0 = zero_is low z in
    let a = both (i == 0) (is_submix scale mono gains flush answer) e in
    let b = both (scale == 4096) (not mono && ((gains == 268439552) && ((flush == 0) && shows_submix answer))) a.1 in
    let c = both (not mono) ((gains == 268439552) && ((flush == 0) && shows_submix answer)) b.1 in
    let d = both (gains == 268439552) ((flush == 0) && shows_submix answer) c.1 in
    let f = both (flush == 0) (shows_submix answer) d.1 in
    let zero_i : i ≡ 0 = zero_is i a.0 in
    record {
      from_low = omega arith;
      inside = omega arith;
      unity = λ _. (zero_i, equal_is gains 268439552 d.0, zero_is flush f.0, as_shown answer s f.1, equal_is scale 4096 b.0, not_true mono c.0);
    }
slot_may low i scale gains flush mono answer false z s e =
    let a = both (nat_le low i) (nat_lt i 32) e in
    let o = slot_order low i a.0 a.1 in
    let some : 1 ≤ low = some_is low z in
    record { from_low = o.0; inside = o.1; unity = λ h. absurd (omega arith) }
