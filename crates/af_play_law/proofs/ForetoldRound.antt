-- The reports of a round by the draft before the turn tell what they tell by the state that the turn pushes, of each track whose proxy isn't home.
use Rattle.std.proofs.Common.{◌≡◌, ℕ, ◌<◌, ◌≤◌, if◌then◌else◌, map, Bool, true, false, All, List, [], ◌∷◌, ◌++◌, length, refl, sym, ap, ◌∙◌, append-nil, arith}
use Rattle.af_play_law.proofs.Common.{AllByRecursion, Carried, EntrySeen, FastState, FirstLate, IsDone, Learnt, LegalEntries, LegalTurnBy, Marks, Outside, Report, Run, ServerEvent, Session, Setting, Setup, TrackKept, TrackTold, Turn, TurnFound, after_ack, after_edits, each_at, each_long, hand_does, hand_events_of, commands_exit, is_home, is_pushed, last_report, last_used, learnt, listed, no_slot, no_track, not_yet, outside_of, report_at, report_of, server_list, setup_of, slot_number, slots, stream_list, told_at, track_at, tracks_at, turned_track, with_cycles, with_poll, with_turn}
use Rattle.af_audit.proofs.Quiet.{stream_quiet}
use Rattle.af_audit.proofs.TrackStands.{hand-server, server-server}
use Rattle.af_play_law.proofs.Words.{SlotStaysAway}
use Rattle.af_play_law.proofs.AwaySlots.{slot_stays_away}
use Rattle.af_play_law.proofs.Foretold.{Alike, alike_on, at_slot, numbers_same, same_report}

module _ (s : Session) (scales : All (λ (t : Setting). t.scale ≤ 4096) (setup_of s).settings) (marks : Marks) (run : Run) (f : TurnFound) (e : Turn) (es : List EntrySeen) where
  abbrev c : Setup
  c = setup_of s

  abbrev o : Outside
  o = outside_of c f e

  abbrev k : Learnt
  k = learnt o

  abbrev turned : Run
  turned = with_turn s f e run

  abbrev next : FastState
  next = (after_edits c k e run.normal).draft

  turned_entries : turned.entries ≡ run.entries
  unfolding with_turn
  turned_entries = refl

  turned_reports : turned.reports ≡ run.reports
  unfolding with_turn
  turned_reports = refl

  turned_states : is_pushed e.push ≡ true → turned.states ≡ run.states ++ next ∷ []
  unfolding with_turn
  turned_states is = ap (λ (p : Bool). run.states ++ (if p then next ∷ [] else [])) is

  turned_none : is_pushed e.push ≡ false → turned.states ≡ run.states
  unfolding with_turn
  turned_none is = ap (λ (p : Bool). run.states ++ (if p then next ∷ [] else [])) is ∙ append-nil run.states

  turned_long : length turned.tracks ≡ length run.tracks
  unfolding with_turn
  turned_long = each_long (turned_track c o run.normal e) 0 run.tracks

  poll_states : (r : Run) (n : ℕ) → (with_poll s n r).states ≡ r.states
  unfolding with_poll
  poll_states r n = refl

  module _ (few : length run.normal.tracks ≤ length (setup_of s).settings) (many : length run.normal.tracks ≤ length run.tracks) (runs : e.ended ≡ false) (carried : Carried run.normal)
      (over : commands_exit run.normal.draft ≡ true → AllByRecursion IsDone run.normal.tracks) (by : LegalTurnBy (setup_of s) marks f run.normal e)
      (fresh : last_used run.entries ≡ 0 → (j : ℕ) → j < slots → report_at (last_report run.reports).slots j ≡ no_slot)
      (far : FirstLate (length run.states) es) (legal : LegalEntries s marks (with_turn s f e run) es) where
    abbrev tracks : List TrackKept
    tracks = (after_ack e.ack run.normal).tracks

    module _ (i : ℕ) (low : i < length run.normal.tracks) (away : is_home (track_at (after_ack e.ack run.normal).tracks i).holder ≡ false) where
      abbrev slot : ℕ
      slot = slot_number (track_at (after_ack e.ack run.normal).tracks i)

      stays : SlotStaysAway run.normal.draft next i slot
      stays = slot_stays_away c scales k run.normal e few runs carried over i low away

      quiet : stream_list c o e (tracks_at c k run.normal e i) i ≡ []
      quiet = stream_quiet c i run.normal e carried.sound by.outside o by.legal (ap learnt by.found)
          (ap (λ (t : TrackKept). is_home t.holder) (not_yet c k e.tracks tracks i i (omega arith)) ∙ away)

      there : i < length run.tracks
      there = omega (arith, low, many)

      same_server : listed (told_at run i).stream ≡ listed (told_at turned i).stream
      unfolding with_turn
      same_server =
          let t : TrackTold = told_at run i in
          let events : List ServerEvent = stream_list c o e (tracks_at c k run.normal e i) i in
          let at : told_at turned i ≡ turned_track c o run.normal e i t = each_at (turned_track c o run.normal e) 0 run.tracks i i no_track there (omega arith) in
          sym (ap (λ (u : TrackTold). listed u.stream) at
          ∙ ap (λ (l : List ServerEvent). record { shape = t.stream.shape; events = l }) (server-server (hand_does (hand_events_of e i) t.stream).told events ∙ ap (λ (l : List ServerEvent). l ++ events) (hand-server t.stream.told (hand_events_of e i)) ∙ ap (λ (l : List ServerEvent). server_list t.stream ++ l) quiet ∙ append-nil (server_list t.stream)))

      begins : is_pushed e.push ≡ true → Alike run.states run.normal.draft next i slot run turned
      begins pushed = record {
        there = there;
        also = (let l = turned_long in let t = there in omega (arith, l, t));
        states = refl;
        states_also = turned_states pushed;
        draft = refl;
        server = same_server;
        entries = sym turned_entries;
        reports = ap (map (at_slot slot)) (sym turned_reports);
        fresh = (λ none. fresh none slot stays.low.1);
      }

      slots_same : map (at_slot slot) (with_cycles s es run).reports ≡ map (at_slot slot) (with_cycles s es turned).reports
      slots_same = by_entries es far legal
        where
          by_entries : (es : List EntrySeen) → FirstLate (length run.states) es → LegalEntries s marks turned es → map (at_slot slot) (with_cycles s es run).reports ≡ map (at_slot slot) (with_cycles s es turned).reports
          by_entries [] far legal = ap (map (at_slot slot)) (sym turned_reports)
          by_entries (first ∷ es) far legal = by_push (is_pushed e.push) refl
            where
              by_push : (p : Bool) → is_pushed e.push ≡ p → map (at_slot slot) (with_cycles s (first ∷ es) run).reports ≡ map (at_slot slot) (with_cycles s (first ∷ es) turned).reports
              by_push true is = (alike_on s marks run.states run.normal.draft next i slot stays (first ∷ es) run turned far legal (begins is)).reports
              by_push false is = (let low_state = legal.0.cycle.pushed in let long = ap (λ (xs : List FastState). length xs) (poll_states turned first.entry.state ∙ turned_none is) in absurd (omega (arith, low_state, long, far)))

      -- the report of a number tells the same of the slot
      pub slot_foretold : (n : ℕ) → report_at (report_of (with_cycles s es turned).reports n).slots slot ≡ report_at (report_of (with_cycles s es run).reports n).slots slot
      slot_foretold n = sym (same_report (at_slot slot) (with_cycles s es run).reports (with_cycles s es turned).reports n slots_same)

  -- the report of a number has the same number
  pub number_foretold : (n : ℕ) → (report_of (with_cycles s es turned).reports n).cycle ≡ (report_of (with_cycles s es run).reports n).cycle
  number_foretold n = sym (same_report (λ (r : Report). r.cycle) (with_cycles s es run).reports (with_cycles s es turned).reports n
      (numbers_same s es run turned (sym turned_entries) (ap (map (λ (r : Report). r.cycle)) (sym turned_reports))))
