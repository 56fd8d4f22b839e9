-- Lines in order are those of a journal.
use Rattle.std.proofs.Common.{◌≡◌, inl, inr, ℕ, zero, suc, ◌+◌, ◌<◌, ◌^◌, ◌==◌, ◌&&◌, nat_lt, List, [], ◌∷◌, ◌++◌, length, map, Some, None, Bool, true, false, cond, refl, ap, ◌∙◌, sym, subst, arith}
use Rattle.af_journal.proofs.Common.{All-nil, AllByRecursion, AreWords, CommandLook, IsRound, IsSeen, IsTake, JournalData, Seen, below_is, both, count_seen, equal_is, not_first, not_true, packed_word, same_Some, some_is, zero_is}
use Rattle.af_base.specs.declared.log.Cycle.TheVariants as cycle
use Rattle.af_journal.specs.declared.line.Line.{Line}
use Rattle.af_journal.specs.declared.line.Line.TheVariants as line
use Rattle.af_journal.specs.declared.stage.Stage.{Stage}
use Rattle.af_journal.specs.declared.stage.Stage.TheVariants as stage
use Rattle.af_journal.specs.Lines.{Written, numbers, words}
use Rattle.af_journal.specs.Ranges.{IsLine, IsWritten}
use Rattle.af_journal.specs.Readings.{CanBeWritten, HasReading}
use Rattle.af_journal.proofs.Words.{AreInOrder, IsInOrder, after_all}
use Rattle.af_journal.specs.Stages.{after_call, after_clients, after_entry, after_fast, after_line, after_look, after_part, after_shown, after_slot, after_take, after_taken, after_turn, after_words, comes, if_so, is_call, is_next, is_round, may_be_slot, may_end}
use Rattle.af_journal.specs.Texts.{text_of_lines, words_after, round_lines}
use Rattle.af_journal.proofs.Fitting.{is_journal}
use Rattle.af_journal.proofs.Spelled.{bind_some, guard_some}
use Rattle.af_journal.proofs.RoundsLeft.{frames_of_words, words_back, are_frames, count_frames, RoundsLeft, EntriesLeft, EntriesDue, FastLeft, TakesLeft, TakeLeft, TurnLeft, LookLeft, ClientsLeft, CallsLeft, CallDue, rounds_entries, rounds_fast, due_left, with_fast, with_round, clients_calls, with_call, first_call, with_client, fast_clients, with_ended}
use Rattle.af_journal.proofs.LinesLeft.{with_turn, with_push, with_look, with_disabled, with_status, no_words, seen_is, with_take}
use Rattle.af_journal.proofs.MixLeft.{SlotsLeft, SlotLeft, entries_slots, no_slot_words, with_slot}
use Rattle.af_journal.proofs.EntriesLeft.{with_still, with_mix, Rest, next_of, frames_two, slot_may}
use Rattle.std.specs.Prelude.{flat_map}

module _ (tracks place : ℕ) (ws : List Written) where
  some_rest : (at next : Stage) → Some at ≡ Some next → Rest tracks place next ws → Rest tracks place at ws
  some_rest at next e r = subst (λ s. Rest tracks place s ws) (sym (same_Some _ _ e)) r

  so_rest : (b : Bool) (at next : Stage) → if_so b at ≡ Some next → Rest tracks place next ws → (b ≡ true) × Rest tracks place at ws
  so_rest b at next e r = let g = guard_some b (Some at) next e in (g.0, some_rest at next g.1 r)

  turn_step : (l : Line) (next : Stage) → after_turn l ≡ Some next → Rest tracks place next ws → FastLeft tracks place (numbers l ∷ ws)
  turn_step line.Round next e r = rounds_fast tracks place (numbers line.Round ∷ ws) (with_round tracks place ws (some_rest (stage.Clients 0) next e r))
  turn_step line.Fast next e r = with_fast tracks place ws (some_rest stage.Fast next e r)
  turn_step _ next e r = cc

  clients_step : (low : ℕ) (l : Line) (next : Stage) → after_clients tracks low l ≡ Some next → Rest tracks place next ws → ClientsLeft tracks low place (numbers l ∷ ws)
  clients_step low line.Round next e r = fast_clients tracks low place (numbers line.Round ∷ ws) (turn_step line.Round next e r)
  clients_step low (line.Client track) next e r = let g = so_rest (is_next tracks low track) (stage.Client (track + 1)) next e r in let p = next_of tracks low track g.0 in with_client tracks low track place ws p.0 p.1 g.1
  clients_step low (line.Turn room ack cycle) next e r = with_turn tracks low place room cycle ack ws (some_rest (stage.Turn 0 0) next e r)
  clients_step low line.Ended next e r = with_ended tracks low place ws (some_rest stage.Turned next e r)
  clients_step low line.Fast next e r = fast_clients tracks low place (numbers line.Fast ∷ ws) (turn_step line.Fast next e r)
  clients_step low _ next e r = cc

  call_step : (low : ℕ) (l : Line) (next : Stage) → after_call tracks low l ≡ Some next → Rest tracks place next ws → CallsLeft tracks low place (numbers l ∷ ws)
  call_step low line.Round next e r = clients_calls tracks low place (numbers line.Round ∷ ws) (clients_step low line.Round next e r)
  call_step low (line.Client track) next e r = clients_calls tracks low place (numbers (line.Client track) ∷ ws) (clients_step low (line.Client track) next e r)
  call_step low (line.Call answer) next e r = with_call tracks low place ws answer (some_rest (stage.Calls low) next e r)
  call_step low (line.Turn room ack cycle) next e r = clients_calls tracks low place (numbers (line.Turn room ack cycle) ∷ ws) (clients_step low (line.Turn room ack cycle) next e r)
  call_step low line.Ended next e r = clients_calls tracks low place (numbers line.Ended ∷ ws) (clients_step low line.Ended next e r)
  call_step low line.Fast next e r = clients_calls tracks low place (numbers line.Fast ∷ ws) (clients_step low line.Fast next e r)
  call_step low _ next e r = cc

  due_step : (low : ℕ) (l : Line) (next : Stage) → if_so (is_call l) (stage.Calls low) ≡ Some next → Rest tracks place next ws → CallDue tracks low place (numbers l ∷ ws)
  due_step low (line.Call answer) next e r = first_call tracks low place ws answer (some_rest (stage.Calls low) next e r)
  due_step low _ next e r = cc

  nothing_step : (l : Line) (next : Stage) → if_so (is_round l) (stage.Clients 0) ≡ Some next → Rest tracks place next ws → RoundsLeft tracks place (numbers l ∷ ws)
  nothing_step line.Round next e r = with_round tracks place ws (some_rest (stage.Clients 0) next e r)
  nothing_step _ next e r = cc

  -- a look, with or without words
  look_by : (low part track flush rear : ℕ) (answer : Seen) (b : Bool) → (count_seen answer == 2) ≡ b → IsSeen answer → comes track 0 low part ≡ true → track < tracks
      → Rest tracks place (cond b (stage.Look track) (stage.Turn track 0)) ws → TurnLeft tracks low part place (numbers (line.Look track flush rear answer) ∷ ws)
  look_by low part track flush rear answer true two s c k r =
      let l : CommandLook = record { flush = flush; rear = rear; seen = answer; code = r.code; argument = r.argument } in
      with_look tracks low part track place (numbers (line.Look track flush rear answer) ∷ ws) r.rest l c k (s, inl (frames_two answer two))
      (ap (λ x. numbers (line.Look track flush rear answer) ∷ x) r.lines ∙ ap (λ b. (numbers (line.Look track flush rear answer) ∷ words_after (cond b (r.code ∷ r.argument ∷ []) [])) ++ r.rest) (sym two))
      r.turn
  look_by low part track flush rear answer false two s c k r =
      let l : CommandLook = record { flush = flush; rear = rear; seen = answer; code = 0; argument = 0 } in
      with_look tracks low part track place (numbers (line.Look track flush rear answer) ∷ ws) ws l c k (s, inr (refl, refl))
      (ap (λ b. (numbers (line.Look track flush rear answer) ∷ words_after (cond b (0 ∷ 0 ∷ []) [])) ++ ws) (sym two))
      r

  look_step : (low part track flush rear : ℕ) (answer : Seen) (next : Stage) → IsSeen answer → if_so (nat_lt track tracks && comes track 0 low part) (after_look track answer) ≡ Some next → Rest tracks place next ws
      → TurnLeft tracks low part place (numbers (line.Look track flush rear answer) ∷ ws)
  look_step low part track flush rear answer next s e r =
      let g = so_rest (nat_lt track tracks && comes track 0 low part) (after_look track answer) next e r in
      let p = both (nat_lt track tracks) (comes track 0 low part) g.0 in
      look_by low part track flush rear answer (count_seen answer == 2) refl s p.1 (below_is track tracks p.0) g.1

  disabled_step : (low part track : ℕ) (next : Stage) → if_so (nat_lt track tracks && comes track 1 low part) (stage.Turn track 2) ≡ Some next → Rest tracks place next ws → TurnLeft tracks low part place (numbers (line.Disabled track) ∷ ws)
  disabled_step low part track next e r =
      let g = so_rest (nat_lt track tracks && comes track 1 low part) (stage.Turn track 2) next e r in
      let p = both (nat_lt track tracks) (comes track 1 low part) g.0 in
      with_disabled tracks low part track place ws p.1 (below_is track tracks p.0) g.1

  status_step : (low part track word : ℕ) (next : Stage) → if_so (nat_lt track tracks && comes track 2 low part) (stage.Turn (track + 1) 0) ≡ Some next → Rest tracks place next ws → TurnLeft tracks low part place (numbers (line.Status track word) ∷ ws)
  status_step low part track word next e r =
      let g = so_rest (nat_lt track tracks && comes track 2 low part) (stage.Turn (track + 1) 0) next e r in
      let p = both (nat_lt track tracks) (comes track 2 low part) g.0 in
      with_status tracks low part track word place ws p.1 (below_is track tracks p.0) g.1

  part_step : (low part : ℕ) (l : Line) (next : Stage) → IsLine l → after_part tracks low part l ≡ Some next → Rest tracks place next ws → TurnLeft tracks low part place (numbers l ∷ ws)
  part_step low part (line.Look track flush rear answer) next fit e r = look_step low part track flush rear answer next (seen_is answer fit.1) e r
  part_step low part (line.Disabled track) next fit e r = disabled_step low part track next e r
  part_step low part (line.Status track word) next fit e r = status_step low part track word next e r
  part_step low part (line.Pushed push) next fit e r = with_push tracks low part place ws push (some_rest (stage.Takes 0) next e r)
  part_step low part _ next fit e r = cc

  -- a take, with or without words
  take_by : (count low : ℕ) (b : Bool) → (count == 0) ≡ b → Rest tracks place (cond b (stage.Takes low) (stage.Take count low)) ws → TakeLeft tracks count low place ws
  take_by count low true z r = subst (λ n. TakeLeft tracks n low place ws) (sym (zero_is count z)) (no_words tracks low place ws r)
  take_by count low false z r = r

  fast_takes : (low : ℕ) (rest : List Written) → FastLeft tracks place rest → TakesLeft tracks low place rest
  fast_takes low rest f = record { takes = []; is = All-nil (IsTake tracks); rise = tt; rest = rest; fast = f; lines = refl }

  one_take : (low track gains flush rear : ℕ) (answer : Seen) (next : Stage) → IsSeen answer → if_so (is_next tracks low track) (after_taken track answer) ≡ Some next → Rest tracks place next ws
      → TakesLeft tracks low place (numbers (line.Take track gains flush rear answer) ∷ ws)
  one_take low track gains flush rear answer next s e r =
      let g = so_rest (is_next tracks low track) (after_taken track answer) next e r in
      let p = next_of tracks low track g.0 in
      with_take tracks low track gains flush rear place answer ws p.0 p.1 s (take_by (count_seen answer) (track + 1) (count_seen answer == 0) refl g.1)

  take_step : (low : ℕ) (l : Line) (next : Stage) → IsLine l → after_take tracks low l ≡ Some next → Rest tracks place next ws → TakesLeft tracks low place (numbers l ∷ ws)
  take_step low line.Round next fit e r = fast_takes low (numbers line.Round ∷ ws) (turn_step line.Round next e r)
  take_step low (line.Take track gains flush rear answer) next fit e r = one_take low track gains flush rear answer next (seen_is answer fit.1) e r
  take_step low line.Fast next fit e r = fast_takes low (numbers line.Fast ∷ ws) (turn_step line.Fast next e r)
  take_step low _ next fit e r = cc

  still_by : (state kind : ℕ) → (kind == 0) ≡ false → kind < 4 → EntriesLeft tracks place ws → EntriesDue tracks place (numbers (line.Entry state kind) ∷ ws)
  still_by state zero z h l = cc
  still_by state (suc zero) z h l = with_still tracks place state cycle.Idle ws refl refl l
  still_by state (suc (suc zero)) z h l = with_still tracks place state cycle.Cold ws refl refl l
  still_by state (suc (suc (suc zero))) z h l = with_still tracks place state cycle.Exit ws refl refl l
  still_by state (suc (suc (suc (suc kind)))) z h l = absurd (omega arith)

  entry_by : (state kind : ℕ) (b : Bool) → (kind == 0) ≡ b → kind < 4 → Rest tracks place (cond b (stage.Mixed 0) stage.Entries) ws → EntriesDue tracks place (numbers (line.Entry state kind) ∷ ws)
  entry_by state kind true z h r = subst (λ n. EntriesDue tracks place (numbers (line.Entry state n) ∷ ws)) (sym (zero_is kind z)) (with_mix tracks place state ws r)
  entry_by state kind false z h r = still_by state kind z h r

  fast_step : (l : Line) (next : Stage) → IsLine l → after_fast l ≡ Some next → Rest tracks place next ws → EntriesDue tracks place (numbers l ∷ ws)
  fast_step (line.Entry state kind) next fit e r = entry_by state kind (kind == 0) refl fit.1 (some_rest (cond (kind == 0) (stage.Mixed 0) stage.Entries) next e r)
  fast_step _ next fit e r = cc

  entry_step : (l : Line) (next : Stage) → IsLine l → after_entry l ≡ Some next → Rest tracks place next ws → EntriesLeft tracks place (numbers l ∷ ws)
  entry_step line.Round next fit e r = rounds_entries tracks place (numbers line.Round ∷ ws) (with_round tracks place ws (some_rest (stage.Clients 0) next e r))
  entry_step (line.Entry state kind) next fit e r = due_left tracks place (numbers (line.Entry state kind) ∷ ws) (fast_step (line.Entry state kind) next fit e r)
  entry_step _ next fit e r = cc

  -- a slot, with or without words
  slot_by : (count low : ℕ) (b : Bool) → (count == 0) ≡ b → Rest tracks place (cond b (stage.Mixed low) (stage.Slot count low)) ws → SlotLeft tracks count low place ws
  slot_by count low true z r = subst (λ n. SlotLeft tracks n low place ws) (sym (zero_is count z)) (no_slot_words tracks low place ws r)
  slot_by count low false z r = r

  one_slot : (low i scale gains flush rear : ℕ) (mono : Bool) (answer : Seen) (next : Stage) → IsSeen answer → if_so (may_be_slot low i scale mono gains flush answer) (after_shown i answer) ≡ Some next → Rest tracks place next ws
      → SlotsLeft tracks low place (numbers (line.Slot i scale mono gains flush rear answer) ∷ ws)
  one_slot low i scale gains flush rear mono answer next s e r =
      let g = so_rest (may_be_slot low i scale mono gains flush answer) (after_shown i answer) next e r in
      let m = slot_may low i scale gains flush mono answer (low == 0) refl s g.0 in
      with_slot tracks low i scale gains flush rear place mono answer ws m.from_low m.inside s m.unity (slot_by (count_seen answer) (i + 1) (count_seen answer == 0) refl g.1)

  past_slots : (low : ℕ) (l : Line) (next : Stage) → IsLine l → cond (low == 0) None (after_entry l) ≡ Some next → Rest tracks place next ws → SlotsLeft tracks low place (numbers l ∷ ws)
  past_slots low l next fit e r =
      let n = not_first (low == 0) (after_entry l) next e in
      entries_slots tracks low place (numbers l ∷ ws) (some_is low n.0) (entry_step l next fit n.1 r)

  slot_step : (low : ℕ) (l : Line) (next : Stage) → IsLine l → after_slot low l ≡ Some next → Rest tracks place next ws → SlotsLeft tracks low place (numbers l ∷ ws)
  slot_step low line.Round next fit e r = past_slots low line.Round next fit e r
  slot_step low (line.Client track) next fit e r = past_slots low (line.Client track) next fit e r
  slot_step low (line.Call answer) next fit e r = past_slots low (line.Call answer) next fit e r
  slot_step low (line.Turn room ack cycle) next fit e r = past_slots low (line.Turn room ack cycle) next fit e r
  slot_step low line.Ended next fit e r = past_slots low line.Ended next fit e r
  slot_step low (line.Look track flush rear answer) next fit e r = past_slots low (line.Look track flush rear answer) next fit e r
  slot_step low (line.Disabled track) next fit e r = past_slots low (line.Disabled track) next fit e r
  slot_step low (line.Status track word) next fit e r = past_slots low (line.Status track word) next fit e r
  slot_step low (line.Pushed push) next fit e r = past_slots low (line.Pushed push) next fit e r
  slot_step low (line.Take track gains flush rear answer) next fit e r = past_slots low (line.Take track gains flush rear answer) next fit e r
  slot_step low line.Fast next fit e r = past_slots low line.Fast next fit e r
  slot_step low (line.Entry state kind) next fit e r = past_slots low (line.Entry state kind) next fit e r
  slot_step low (line.Slot i scale mono gains flush rear answer) next fit e r = one_slot low i scale gains flush rear mono answer next (seen_is answer fit.3) e r

  line_step : (at : Stage) (l : Line) (next : Stage) → IsLine l → after_line tracks at l ≡ Some next → Rest tracks place next ws → Rest tracks place at (numbers l ∷ ws)
  line_step stage.Nothing l next fit e r = nothing_step l next e r
  line_step (stage.Clients low) l next fit e r = clients_step low l next e r
  line_step (stage.Calls low) l next fit e r = call_step low l next e r
  line_step (stage.Client low) l next fit e r = due_step low l next e r
  line_step (stage.Turn low part) l next fit e r = part_step low part l next fit e r
  line_step (stage.Takes low) l next fit e r = take_step low l next fit e r
  line_step stage.Turned l next fit e r = turn_step l next e r
  line_step stage.Fast l next fit e r = fast_step l next fit e r
  line_step (stage.Mixed low) l next fit e r = slot_step low l next fit e r
  line_step stage.Entries l next fit e r = entry_step l next fit e r
  line_step _ l next fit e r = cc

-- the place in the log after a line of words
abbrev after_place : Stage → ℕ → ℕ → ℕ
after_place (stage.Slot due low) place count = place + count
after_place _ place count = place

words_left : (vs ws : List Written) (us : List ℕ) → IsWritten (words us) → words us ∷ ws ≡ words_after (map packed_word (frames_of_words us)) ++ ws
words_left vs ws [] fit = absurd fit
words_left vs ws (u ∷ us) fit = ap (λ l. words_after l ++ ws) (sym (words_back (u ∷ us) fit))

fit_words : (us : List ℕ) → IsWritten (words us) → AreWords us
fit_words [] fit = absurd fit
fit_words (u ∷ us) fit = fit

look_left : (tracks place track : ℕ) (ws : List Written) (us : List ℕ) → (length us == 2) ≡ true → TurnLeft tracks track 0 place ws → LookLeft tracks track place (words us ∷ ws)
look_left tracks place track ws [] e t = cc
look_left tracks place track ws (a ∷ []) e t = cc
look_left tracks place track ws (a ∷ b ∷ []) e t = record { code = a; argument = b; rest = ws; turn = t; lines = refl }
look_left tracks place track ws (a ∷ b ∷ c ∷ us) e t = absurd (let n = equal_is (length (a ∷ b ∷ c ∷ us)) 2 e in omega arith)

words_step : (tracks place : ℕ) (ws : List Written) (at : Stage) (us : List ℕ) (next : Stage) → IsWritten (words us) → after_words at (length us) ≡ Some next → Rest tracks (after_place at place (length us)) next ws → Rest tracks place at (words us ∷ ws)
words_step tracks place ws (stage.Look track) us next fit e r = let g = so_rest tracks place ws (length us == 2) (stage.Turn track 0) next e r in look_left tracks place track ws us g.0 g.1
words_step tracks place ws (stage.Take due low) us next fit e r =
    let g = so_rest tracks place ws (length us == due) (stage.Takes low) next e r in
    record { fs = frames_of_words us; count = count_frames us ∙ equal_is (length us) due g.0; are = are_frames us (fit_words us fit); rest = ws; takes = g.1; lines = words_left [] ws us fit }
words_step tracks place ws (stage.Slot due low) us next fit e r =
    let g = so_rest tracks (place + length us) ws (length us == due) (stage.Mixed low) next e r in
    let same = equal_is (length us) due g.0 in
    record { fs = frames_of_words us; count = count_frames us ∙ same; are = are_frames us (fit_words us fit); rest = ws; slots = subst (λ n. SlotsLeft tracks low (place + n) ws) same g.1; lines = words_left [] ws us fit }
words_step tracks place ws stage.Nothing us next fit e r = cc
words_step tracks place ws (stage.Clients low) us next fit e r = cc
words_step tracks place ws (stage.Calls low) us next fit e r = cc
words_step tracks place ws (stage.Client low) us next fit e r = cc
words_step tracks place ws (stage.Turn low part) us next fit e r = cc
words_step tracks place ws (stage.Takes low) us next fit e r = cc
words_step tracks place ws stage.Turned us next fit e r = cc
words_step tracks place ws stage.Fast us next fit e r = cc
words_step tracks place ws (stage.Mixed low) us next fit e r = cc
words_step tracks place ws stage.Entries us next fit e r = cc

-- nothing is left
no_rounds : (tracks place : ℕ) → RoundsLeft tracks place []
no_rounds tracks place = record { rounds = []; form = All-nil (IsRound tracks); are = tt; lines = refl }

at_end : (tracks place : ℕ) (at : Stage) → may_end at ≡ true → Rest tracks place at []
at_end tracks place stage.Nothing may = no_rounds tracks place
at_end tracks place (stage.Clients low) may = fast_clients tracks low place [] (rounds_fast tracks place [] (no_rounds tracks place))
at_end tracks place (stage.Calls low) may = clients_calls tracks low place [] (fast_clients tracks low place [] (rounds_fast tracks place [] (no_rounds tracks place)))
at_end tracks place (stage.Takes low) may = fast_takes tracks place [] low [] (rounds_fast tracks place [] (no_rounds tracks place))
at_end tracks place stage.Turned may = rounds_fast tracks place [] (no_rounds tracks place)
at_end tracks place (stage.Mixed low) may = entries_slots tracks low place [] (some_is low (not_true (low == 0) may)) (rounds_entries tracks place [] (no_rounds tracks place))
at_end tracks place stage.Entries may = rounds_entries tracks place [] (no_rounds tracks place)
at_end tracks place _ may = cc

-- what the lines after a stage tell
pub left : (tracks place : ℕ) (at end : Stage) (ws : List Written) → AllByRecursion IsWritten ws → after_all tracks at ws ≡ Some end → may_end end ≡ true → Rest tracks place at ws
left tracks place at end [] fit e may = at_end tracks place at (ap may_end (same_Some _ _ e) ∙ may)
left tracks place at end (numbers l ∷ ws) fit e may =
    let x = bind_some (after_line tracks at l) (λ next. after_all tracks next ws) end e in
    line_step tracks place ws at l x.0 fit.0 x.1 (left tracks place x.0 end ws fit.1 x.2 may)
left tracks place at end (words us ∷ ws) fit e may =
    let x = bind_some (after_words at (length us)) (λ next. after_all tracks next ws) end e in
    words_step tracks place ws at us x.0 fit.0 x.1 (left tracks (after_place at place (length us)) x.0 end ws fit.1 x.2 may)

-- lines in order are those of rounds, wherever their frames stand
pub order-is-rounds : (tracks place : ℕ) (ws : List Written) → AreInOrder tracks ws → RoundsLeft tracks place ws
order-is-rounds tracks place ws o = left tracks place stage.Nothing o.last ws o.numbers_fit o.follow o.ends

-- lines in order are those of a journal
pub order-is-journal : (tracks : ℕ) (ws : List Written) → tracks < 2 ^ 32 → AreInOrder tracks ws → (j : JournalData) × CanBeWritten tracks j × (ws ≡ flat_map round_lines j.rounds)
order-is-journal tracks ws few o =
    let r = order-is-rounds tracks 0 ws o in (
      record { tracks = tracks; rounds = r.rounds },
      record { tracks_are = refl; form = is_journal tracks r.rounds few r.form r.are (subst (AllByRecursion IsWritten) r.lines o.numbers_fit) },
      r.lines,
    )

-- a text of lines in order has a reading
pub order-has-reading : (tracks : ℕ) (text : List ℕ) → tracks < 2 ^ 32 → IsInOrder tracks text → HasReading tracks text
order-has-reading tracks text few r =
    let j = order-is-journal tracks r.0 few r.1 in
    (j.0, (j.1, r.2 ∙ ap text_of_lines j.2))
