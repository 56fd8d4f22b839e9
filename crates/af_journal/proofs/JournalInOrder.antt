-- The lines of a journal are in order.
use Rattle.std.proofs.Common.{◌≡◌, ◌⊎◌, inl, inr, ℕ, zero, suc, ◌+◌, ◌<◌, ◌≤◌, ◌==◌, ◌&&◌, nat_le, nat_lt, not, List, [], ◌∷◌, ◌++◌, length, map, drop, Option, Some, None, Bool, true, false, cond, slice_index_or, MatchOption, lit<, refl, ap, ◌∙◌, sym, subst, arith, All}
use Rattle.af_journal.proofs.Common.{All-head, All-tail, AreEntries, Cycle, EntrySeen, IsAbsent, IsEntry, IsMixed, IsRound, IsSeen, IsTurn, JournalData, RoundSeen, Seen, Turn, bit_at, count_seen, entries_of, entry_slot, flat_map, is_mixed, is_shown, is_spent, kind_of, length-drop, length-map, length-take-le, nat_tests, not_zero, packed_word, range_with_len, shown, shown_if, slot_frames, slots, taken_before, taken_by, taken_up}
use Rattle.af_base.specs.declared.log.Cycle.TheVariants as cycle
use Rattle.af_base.specs.declared.seen.Seen.TheVariants as seen
use Rattle.af_journal.specs.declared.line.Line.TheVariants as line
use Rattle.af_journal.specs.declared.stage.Stage.{Stage}
use Rattle.af_journal.specs.declared.stage.Stage.TheVariants as stage
use Rattle.af_journal.specs.Lines.{Written, numbers}
use Rattle.af_journal.specs.Readings.{CanBeWritten, HasReading}
use Rattle.af_journal.proofs.Words.{AreInOrder, IsInOrder}
use Rattle.af_journal.specs.Stages.{after_line, after_shown, after_written, is_submix, may_be_slot, shows_submix}
use Rattle.af_journal.specs.Texts.{client_lines, each_from, entry_lines, fast_lines, round_lines, slot_lines, slots_lines, turns_lines, words_after}
use Rattle.af_journal.proofs.Fitting.{lines_fit, parted}
use Rattle.af_journal.proofs.Texts.{range-more}
use Rattle.af_journal.proofs.TurnsInOrder.{Leads, none, and_on, first, if_true, AtRound, AtFast, IsDue, AtClients, clients_fast, clients_lead, shown_words, turn_leads}

-- ## The slots of a mix

-- slot i may come, or a later one, and the submix stands there
abbrev AtSlot : ℕ → Stage → Type 0
AtSlot i (stage.Mixed low) = (1 ≤ low) × (low ≤ i)
AtSlot i _ = ⊥

record OfMix (i : ℕ) (at : Stage) : Type 0 where
  low : ℕ
  is : at ≡ stage.Mixed low
  some : 1 ≤ low
  up_to : low ≤ i

of_mix : (i : ℕ) (at : Stage) → AtSlot i at → OfMix i at
of_mix i (stage.Mixed low) p = record { low = low; is = refl; some = p.0; up_to = p.1 }
of_mix i _ p = absurd p

slot_next : (low i : ℕ) → low ≤ i → i < 32 → (nat_le low i && nat_lt i 32) ≡ true
slot_next low i h k = grind (arith, nat_tests)

may_slot : (low i scale : ℕ) (mono : Bool) (gains flush : ℕ) (answer : Seen) → 1 ≤ low → low ≤ i → i < 32 → may_be_slot low i scale mono gains flush answer ≡ true
may_slot low i scale mono gains flush answer s h k =
    ap (λ b. cond b ((i == 0) && is_submix scale mono gains flush answer) (nat_le low i && nat_lt i 32)) (not_zero low s) ∙ slot_next low i h k

submix_is : (scale : ℕ) (mono : Bool) (gains flush : ℕ) (answer : Seen) → scale ≡ 4096 → mono ≡ false → gains ≡ 268439552 → flush ≡ 0 → shows_submix answer ≡ true → is_submix scale mono gains flush answer ≡ true
submix_is scale mono gains flush answer a b c d e =
    ap (λ n. (n == 4096) && (not mono && ((gains == 268439552) && ((flush == 0) && shows_submix answer)))) a
    ∙ ap (λ b. not b && ((gains == 268439552) && ((flush == 0) && shows_submix answer))) b
    ∙ ap (λ n. (n == 268439552) && ((flush == 0) && shows_submix answer)) c
    ∙ ap (λ n. (n == 0) && shows_submix answer) d
    ∙ e

submix_shows : (count : ℕ) (b : Bool) → (shows_submix (cond b seen.Empty (seen.Frames count)) ≡ true) × (is_shown (cond b seen.Empty (seen.Frames count)) ≡ true)
submix_shows count true = (refl, refl)
submix_shows count false = (refl, refl)

module _ (tracks place : ℕ) (e : EntrySeen) (whole : length e.frames ≡ taken_by e.entry) (m : IsMixed place e.entry) where
  abbrev slot_of : ℕ → Written
  slot_of i = let slot = entry_slot e.entry i in numbers (line.Slot i (slice_index_or e.entry.scales i 0) (bit_at e.entry.mono i == 1) slot.gains slot.flush slot.rear slot.seen)

  -- a slot has as many words as it showed frames
  words_of_slot : (i : ℕ) → i < slots → length (map packed_word (slot_frames e i)) ≡ count_seen (entry_slot e.entry i).seen
  unfolding taken_by
  words_of_slot i lt =
      let before = taken_before e.entry i in let count = count_seen (entry_slot e.entry i).seen in
      let below : before + count ≤ taken_before e.entry slots = taken_up e.entry i slots lt in
      let long = length-drop before e.frames in
      length-map (slot_frames e i) packed_word ∙ length-take-le count (drop before e.frames) (omega (arith, below, whole, long))

  shown_leads : (at : Stage) (i : ℕ) → i < slots → after_written tracks at (slot_of i) ≡ Some (after_shown i (entry_slot e.entry i).seen) → is_shown (entry_slot e.entry i).seen ≡ true → Leads tracks at (slot_lines e i) (AtSlot (i + 1))
  shown_leads at i lt comes_is shows =
      let count = count_seen (entry_slot e.entry i).seen in
      let ws = map packed_word (slot_frames e i) in
      subst (λ b. Leads tracks at (cond b (slot_of i ∷ words_after ws) []) (AtSlot (i + 1))) (sym shows)
      (first tracks at (after_shown i (entry_slot e.entry i).seen) (slot_of i) (words_after ws) (AtSlot (i + 1)) comes_is
      (record { next = stage.Mixed (i + 1); follow = shown_words tracks count (i + 1) ws (count == 0) refl (words_of_slot i lt); good = (omega arith, omega arith) }))

  no_bit : (bit_at e.entry.mono 0 == 1) ≡ false
  no_bit = ap (λ n. n == 1) m.submix.2

  submix_leads : Leads tracks (stage.Mixed 0) (slot_lines e 0) (AtSlot 1)
  submix_leads =
      let slot = entry_slot e.entry 0 in
      let s = submix_shows (count_seen slot.seen) (count_seen slot.seen == 0) in
      let seen_is : slot.seen ≡ shown (count_seen slot.seen) = m.submix.0.2 in
      let shows : shows_submix slot.seen ≡ true = ap shows_submix seen_is ∙ s.0 in
      let unity = submix_is (slice_index_or e.entry.scales 0 0) (bit_at e.entry.mono 0 == 1) slot.gains slot.flush slot.seen m.submix.1 no_bit m.submix.0.0 m.submix.0.1 shows in
      shown_leads (stage.Mixed 0) 0 (omega arith)
      (if_true (may_be_slot 0 0 (slice_index_or e.entry.scales 0 0) (bit_at e.entry.mono 0 == 1) slot.gains slot.flush slot.seen) (after_shown 0 slot.seen) unity)
      (ap is_shown seen_is ∙ s.1)

  later_slot : (at : Stage) (i : ℕ) → AtSlot i at → AtSlot (i + 1) at
  later_slot at i p = let o = of_mix i at p in subst (AtSlot (i + 1)) (sym o.is) (o.some, omega (arith, o.up_to))

  other_leads : (at : Stage) (i : ℕ) → i < slots → AtSlot i at → IsAbsent e.entry i ⊎ IsSeen (entry_slot e.entry i).seen → Leads tracks at (slot_lines e i) (AtSlot (i + 1))
  other_leads at i lt p (inl gone) =
      subst (λ b. Leads tracks at (cond b (slot_of i ∷ words_after (map packed_word (slot_frames e i))) []) (AtSlot (i + 1))) (sym (ap (λ s. is_shown s.seen) gone.0))
      (none tracks at (AtSlot (i + 1)) (later_slot at i p))
  other_leads at i lt p (inr seen_is) =
      let o = of_mix i at p in let slot = entry_slot e.entry i in
      shown_leads at i lt
      (ap (λ at. after_written tracks at (slot_of i)) o.is
      ∙ if_true (may_be_slot o.low i (slice_index_or e.entry.scales i 0) (bit_at e.entry.mono i == 1) slot.gains slot.flush slot.seen) (after_shown i slot.seen)
      (may_slot o.low i (slice_index_or e.entry.scales i 0) (bit_at e.entry.mono i == 1) slot.gains slot.flush slot.seen o.some o.up_to lt))
      (shown_if slot.seen seen_is)

  first_slots : (n : ℕ) → n < slots → Leads tracks (stage.Mixed 0) (flat_map (slot_lines e) (range_with_len 0 (n + 1))) (AtSlot (n + 1))
  first_slots zero lt = subst (λ ws. Leads tracks (stage.Mixed 0) ws (AtSlot 1)) (sym (range-more (slot_lines e) 0)) submix_leads
  first_slots (suc n) lt =
      let one : n + 1 ≡ suc n = omega arith in
      let before : Leads tracks (stage.Mixed 0) (flat_map (slot_lines e) (range_with_len 0 (suc n))) (AtSlot (suc n)) =
      subst (λ k. Leads tracks (stage.Mixed 0) (flat_map (slot_lines e) (range_with_len 0 k)) (AtSlot k)) one (first_slots n (omega arith)) in
      subst (λ ws. Leads tracks (stage.Mixed 0) ws (AtSlot (suc n + 1))) (sym (range-more (slot_lines e) (suc n)))
      (and_on tracks (stage.Mixed 0) (flat_map (slot_lines e) (range_with_len 0 (suc n))) (slot_lines e (suc n)) (AtSlot (suc n)) (AtSlot (suc n + 1)) before
      (λ next p. other_leads next (suc n) lt p (m.others (suc n) (omega arith) lt)))

  slots_lead : Leads tracks (stage.Mixed 0) (slots_lines e) (AtSlot 32)
  unfolding slots_lines
  slots_lead = first_slots 31 (lit< tt)

-- ## Entries

abbrev AtEntry : ℕ → Stage → Type 0
AtEntry tracks at = IsDue tracks at × AtRound tracks at

mix_entry : (tracks : ℕ) (at : Stage) → AtSlot 32 at → AtEntry tracks at
mix_entry tracks at p =
    let o = of_mix 32 at p in
    subst (AtEntry tracks) (sym o.is) (
      λ state kind. ap (λ b. cond b None (Some (cond (kind == 0) (stage.Mixed 0) stage.Entries))) (not_zero o.low o.some),
      (ap (λ b. cond b None (Some (stage.Clients 0))) (not_zero o.low o.some), ap not (not_zero o.low o.some)),
    )

still_leads : (tracks : ℕ) (at : Stage) (state kind : ℕ) → after_line tracks at (line.Entry state kind) ≡ Some stage.Entries → Leads tracks at (numbers (line.Entry state kind) ∷ []) (AtEntry tracks)
still_leads tracks at state kind e = first tracks at stage.Entries (numbers (line.Entry state kind)) [] (AtEntry tracks) e (none tracks stage.Entries (AtEntry tracks) (λ state kind. refl, (refl, refl)))

entry_by : (tracks : ℕ) (at : Stage) (state : ℕ) (slots_of : List Written) (cy : Cycle) → is_spent cy ≡ false → (is_mixed cy ≡ true → Leads tracks (stage.Mixed 0) slots_of (AtEntry tracks)) → IsDue tracks at
    → Leads tracks at (numbers (line.Entry state (kind_of cy)) ∷ cond (is_mixed cy) slots_of []) (AtEntry tracks)
entry_by tracks at state slots_of cycle.Mixed kept f due = first tracks at (stage.Mixed 0) (numbers (line.Entry state 0)) slots_of (AtEntry tracks) (due state 0) (f refl)
entry_by tracks at state slots_of cycle.Idle kept f due = still_leads tracks at state 1 (due state 1)
entry_by tracks at state slots_of cycle.Cold kept f due = still_leads tracks at state 2 (due state 2)
entry_by tracks at state slots_of cycle.Exit kept f due = still_leads tracks at state 3 (due state 3)
entry_by tracks at state slots_of (cycle.Spent n) kept f due = cc

to_entry : (tracks : ℕ) (ws : List Written) → Leads tracks (stage.Mixed 0) ws (AtSlot 32) → Leads tracks (stage.Mixed 0) ws (AtEntry tracks)
to_entry tracks ws l = record { next = l.next; follow = l.follow; good = mix_entry tracks l.next l.good }

entry_leads : (tracks place : ℕ) (at : Stage) (e : EntrySeen) → IsEntry place e.entry → length e.frames ≡ taken_by e.entry → IsDue tracks at → Leads tracks at (entry_lines e) (AtEntry tracks)
entry_leads tracks place at e is whole due =
    entry_by tracks at e.entry.state (slots_lines e) e.entry.cycle is.kept (λ mixed. to_entry tracks (slots_lines e) (slots_lead tracks place e whole (is.mixes mixed))) due

entries_lead : (tracks place : ℕ) (at : Stage) (es : List EntrySeen) → AreEntries place es → AtEntry tracks at → Leads tracks at (flat_map entry_lines es) (AtEntry tracks)
entries_lead tracks place at [] are p = none tracks at (AtEntry tracks) p
entries_lead tracks place at (e ∷ es) are p =
    and_on tracks at (entry_lines e) (flat_map entry_lines es) (AtEntry tracks) (AtEntry tracks) (entry_leads tracks place at e are.0 are.1 p.0)
    (λ next q. entries_lead tracks (place + length e.frames) next es are.3 q)

fast_leads : (tracks place : ℕ) (at : Stage) (es : List EntrySeen) → AreEntries place es → AtFast tracks at → Leads tracks at (fast_lines es) (AtRound tracks)
fast_leads tracks place at [] are p = none tracks at (AtRound tracks) p.1
fast_leads tracks place at (e ∷ es) are p =
    first tracks at stage.Fast (numbers line.Fast) (flat_map entry_lines (e ∷ es)) (AtRound tracks) p.0
    (and_on tracks stage.Fast (entry_lines e) (flat_map entry_lines es) (AtEntry tracks) (AtRound tracks) (entry_leads tracks place stage.Fast e are.0 are.1 (λ state kind. refl))
    (λ next q. let l = entries_lead tracks (place + length e.frames) next es are.3 q in record { next = l.next; follow = l.follow; good = l.good.1 }))

-- ## Rounds

turns_lead : (tracks n : ℕ) (at : Stage) (o : Option Turn) → MatchOption o (Unit {0}) (IsTurn tracks) → AtClients n at → Leads tracks at (turns_lines o) (AtFast tracks)
turns_lead tracks n at None is p = none tracks at (AtFast tracks) (clients_fast tracks n at p)
turns_lead tracks n at (Some e) is p = turn_leads tracks n at e is p

round_leads : (tracks place : ℕ) (at : Stage) (r : RoundSeen) → IsRound tracks r → AreEntries place r.entries → AtRound tracks at → Leads tracks at (round_lines r) (AtRound tracks)
round_leads tracks place at r is are p =
    first tracks at (stage.Clients 0) (numbers line.Round) (each_from client_lines 0 r.calls ++ turns_lines r.turn ++ fast_lines r.entries) (AtRound tracks) p.0
    (and_on tracks (stage.Clients 0) (each_from client_lines 0 r.calls ++ turns_lines r.turn) (fast_lines r.entries) (AtFast tracks) (AtRound tracks)
    (and_on tracks (stage.Clients 0) (each_from client_lines 0 r.calls) (turns_lines r.turn) (AtClients (0 + length r.calls)) (AtFast tracks)
    (clients_lead tracks 0 (stage.Clients 0) r.calls (let h = is.calls in omega arith) (omega arith))
    (λ next q. turns_lead tracks (0 + length r.calls) next r.turn is.turn q))
    (λ next q. fast_leads tracks place next r.entries are q))

rounds_lead : (tracks place : ℕ) (at : Stage) (rounds : List RoundSeen) → All (IsRound tracks) rounds → AreEntries place (entries_of rounds) → AtRound tracks at → Leads tracks at (flat_map round_lines rounds) (AtRound tracks)
rounds_lead tracks place at [] are entries p = none tracks at (AtRound tracks) p
rounds_lead tracks place at (r ∷ rs) are entries p =
    let parts = parted place r.entries (entries_of rs) entries in
    and_on tracks at (round_lines r) (flat_map round_lines rs) (AtRound tracks) (AtRound tracks)
    (round_leads tracks place at r (All-head (IsRound tracks) r rs are) parts.own p)
    (λ next q. rounds_lead tracks parts.later next rs (All-tail (IsRound tracks) r rs are) parts.others q)

-- the lines of a journal are in order
pub journal-in-order : (tracks : ℕ) (j : JournalData) → CanBeWritten tracks j → AreInOrder tracks (flat_map round_lines j.rounds)
journal-in-order tracks j can =
    let rounds : All (IsRound tracks) j.rounds = subst (λ n. All (IsRound n) j.rounds) can.tracks_are can.form.rounds in
    let l = rounds_lead tracks 0 stage.Nothing j.rounds rounds can.form.entries (refl, refl) in
    record { numbers_fit = lines_fit j can.form; last = l.next; follow = l.follow; ends = l.good.1 }

-- a text that has a reading is one of lines in order
pub reading-in-order : (tracks : ℕ) (text : List ℕ) → HasReading tracks text → IsInOrder tracks text
reading-in-order tracks text r = (flat_map round_lines r.0.rounds, journal-in-order tracks r.0 r.1.0, r.1.1)
