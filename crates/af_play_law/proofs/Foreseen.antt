-- Of the proxies that aren't home the report which the normal mixer loads in a round of all parties says what the run foresees by the draft before the turn.
use Rattle.std.proofs.Common.{◌≡◌, ◌⊎◌, ⊎_elim, ℕ, suc, ◌+◌, ◌<◌, ◌≤◌, ◌||◌, ◌&&◌, Bool, true, false, true≢false, if◌then◌else◌, All, List, [], ◌∷◌, ◌++◌, length, length-append, drop, Some, refl, sym, ap, subst, ◌∙◌, arith}
use Rattle.af_play_law.proofs.Common.{AllByRecursion, Carried, CycleEntry, CyclesOn, Deeds, EntrySeen, FirstLate, HasStateHistory, HeardAlike, IsDone, IsLegal, LegalTurnBy, Links, Load, Marks, MatchBool, MixerState, NormalKept, NormalState, Outside, ReaderEvent, Report, RoundSeen, Run, SawOwnBy, Session, SessionState, Setting, Setup, TrackKept, Turn, TurnFound, TurnMade, TurnPlayed, TurnShown, WriterEvent, acked_len, after_ack, answer_of, before_same, before_turn, beyond_is, calls-entries, early_count, early_of, found_in, is_early, commands_exit, is_home, kept_of, late_of, load_of, max, most_cycles, prefix_len, report_at, report_of, reports_stored, setup_of, slot_number, stores, take-append-drop, track_at, turn_of, with_calls, with_cycles, with_turn}
use Rattle.std.proofs.lemmas.Grind.{fold-append}
use Rattle.af_normal.specs.State.{setup_of as mixer_setup}
use Rattle.af_told_law.specs.Leads.{Tells as TellsPushes}
use Rattle.af_play_law.specs.Loads.{LoadsOneOf, MetLast}
use Rattle.af_play_law.specs.RoundPlayed.{PlayStands, ReportsCount, RoundPlayed}
use Rattle.af_play_law.proofs.Words.{HearsForeseen}
use Rattle.af_play_law.proofs.AfterTurn.{finds, front_shown}
use Rattle.af_play_law.proofs.Cycled.{CyclesAre}
use Rattle.af_play_law.proofs.CyclesGrow.{EndsGrow, turned_grows}
use Rattle.af_play_law.proofs.CyclesTold.{AllShown, CyclesTold, cycles_told}
use Rattle.af_play_law.proofs.ForetoldRound.{number_foretold, slot_foretold}
use Rattle.af_play_law.proofs.PollsShown.{all_late, late_shown}
use Rattle.af_play_law.proofs.ReportsCount.{calls_count, cycles_count, turn_counts}
use Rattle.af_play_law.proofs.RoundCycles.{cycles, early, first_is, grown_end, grown_half, grows_is, half, halfway, known_half, late, late_start, later, order_half, parts, saw_half, stands_half, together_turned}
use Rattle.af_play_law.proofs.RoundForm.{cycles_added}
use Rattle.af_play_law.proofs.RoundLoads.{loaded_found, met_before, round_loads}
use Rattle.af_play_law.proofs.RoundTurn.{TurnLeft, turn_left, unread}

-- no block is called lawful
abbrev no_marks : Marks
no_marks = record { streams = λ i. false; commands = λ i. false }

none_asked : (run : Run) (d : Deeds) → SawOwnBy no_marks run d
none_asked run d = record { streams = (λ i low on. absurd (true≢false (sym on))); commands = (λ i low on. absurd (true≢false (sym on))) }

-- the first late entry is of a state that wasn't pushed before the round
first_late : (run : Run) (es : List EntrySeen) → FirstLate (length run.states) (drop (prefix_len (is_early run) es) es)
first_late run [] = tt
first_late run (e ∷ es) = by (is_early run e) refl (first_late run es)
  where
    by : (b : Bool) → is_early run e ≡ b → FirstLate (length run.states) (drop (prefix_len (is_early run) es) es) → FirstLate (length run.states) (drop (if b then 1 + prefix_len (is_early run) es else 0) (e ∷ es))
    by true is rest = subst (λ (n : ℕ). FirstLate (length run.states) (drop n (e ∷ es))) (let q : suc (prefix_len (is_early run) es) ≡ 1 + prefix_len (is_early run) es = omega arith in q) rest
    by false is rest = beyond_is e.entry.state (length run.states) is

module _ (links : Links) (s : Session) (run : Run) (d : Deeds) (x u z : SessionState) (bytes : List ℕ) (round : RoundSeen) (stands : PlayStands s run d x) (w : RoundPlayed links s x u z bytes round) where
  abbrev n : NormalState
  n = u.normal

  abbrev e : Turn
  e = turn_of n.entry

  abbrev f : MixerState
  f = half links s run d x u z bytes round stands w

  abbrev between : SessionState
  between = halfway links s run d x u z bytes round stands w

  abbrev before : Run
  before = before_turn s run round

  abbrev last : MixerState
  last = (cycles links s run d x u z bytes round stands w).last

  abbrev told_early : CyclesTold links s (with_calls round run) d (record x { clients = u.clients }) (early_of run round) f
  told_early = early links s run d x u z bytes round stands w

  -- ## What the late polls show

  none_shown : (m : NormalState) (es : List EntrySeen) (a b : MixerState) (c : CyclesAre links es a b) → es ≡ [] → AllShown links m es a b c
  none_shown m [] a b c is = tt
  none_shown m (t ∷ es) a b c is = absurd (let long : length (t ∷ es) ≡ 0 = ap (λ (l : List EntrySeen). length l) is in omega (arith, long))

  shown_by : TellsPushes n.mutator.past → AllShown links (record n { reader = x.normal.reader }) (late_of run round) f last (parts links s run d x u z bytes round stands w).back
  shown_by tells = ⊎_elim
      (λ (none : late_of run round ≡ []). none_shown (record n { reader = x.normal.reader }) (late_of run round) f last (parts links s run d x u z bytes round stands w).back none)
      (λ (h : HasStateHistory x.normal.mutator.past.first n.mutator.past.events f.observer.past.events).
      late_shown links x u z w.meets.ends stands.stands (first_is links s run d x u z bytes round stands w) (grows_is links s run d x u z bytes round stands w) x.normal.reader tells
      (late_of run round) f last (parts links s run d x u z bytes round stands w).back
      (order_half links s run d x u z bytes round stands w) (grown_half links s run d x u z bytes round stands w) (grown_end links s run d x u z bytes round stands w) h
      (all_late links x.normal.mutator.past.number (late_of run round) f last (parts links s run d x u z bytes round stands w).back (late links s run d x u z bytes round stands w)))
      (late_start links s run d x u z bytes round stands w)

  -- ## What the turn loaded

  met : ((x.fast.writer.events ≡ []) × (x.normal.reader.events ≡ [])) ⊎ MetLast x.fast.writer.events x.normal.reader.events
  met = subst (λ (q : List (WriterEvent Report) × List (ReaderEvent Report)). ((q.0 ≡ []) × (q.1 ≡ [])) ⊎ MetLast q.0 q.1) (λ j. (sym stands.told.shared.writer j, sym stands.told.shared.reader j)) (met_before run stands.report)

  grown : EndsGrow x.fast u.fast
  grown = turned_grows links x.fast bytes u.fast w.plays.fast

  -- the round adds at most sixteen entries
  few_added : length u.fast.log.entries ≤ length x.fast.log.entries + 16
  few_added = by_exit x.fast.exited refl w.plays.fast
    where
      by_exit : (b : Bool) → x.fast.exited ≡ b → MatchBool b ((bytes ≡ []) × (u.fast ≡ x.fast)) (CyclesOn links most_cycles x.fast bytes u.fast) → length u.fast.log.entries ≤ length x.fast.log.entries + 16
      by_exit true over still = (let same = ap (λ (m : MixerState). length m.log.entries) still.1 in omega (arith, same))
      by_exit false runs turn =
          let all = cycles_added links most_cycles x.fast bytes u.fast runs (sym w.before.fast.0.keeps.exited_is ∙ runs) turn in
          let long = ap (λ (es : List CycleEntry). length es) all.entries ∙ length-append x.fast.log.entries all.added in
          let few = all.few in
          omega (arith, long, few)

  -- ## The same settings

  setup : mixer_setup x.normal ≡ setup_of s
  setup = stands.told.normal.setup

  kept : kept_of x.normal ≡ run.normal
  kept = stands.told.normal.kept

  same_normal : before.normal ≡ run.normal
  same_normal = (before_same s run round).normal

  scales : All (λ (t : Setting). t.scale ≤ 4096) (setup_of s).settings
  scales = subst (λ (c : Setup). All (λ (t : Setting). t.scale ≤ 4096) c.settings) setup w.before.normal.tied.sizes.scales

  few_settings : length before.normal.tracks ≤ length (setup_of s).settings
  few_settings =
      let a = ap (λ (m : NormalKept). length m.tracks) (same_normal ∙ sym kept) in
      let b = w.before.normal.tied.sizes.settings in
      let c = ap (λ (t : Setup). length t.settings) setup in
      omega (arith, a, b, c)

  many_tracks : length before.normal.tracks ≤ length before.tracks
  many_tracks =
      let a = ap (λ (m : NormalKept). length m.tracks) (same_normal ∙ sym kept) in
      let b = told_early.may.told.count.0 in
      let c = stands.told.count.1 in
      let g = w.before.count in
      omega (arith, a, b, c, g)

  -- ## A turn by what it really loaded

  module _ (carried : Carried run.normal) (lives : x.normal.ended ≡ false) (o : Outside) (legal : IsLegal o x.normal n) (made : TurnMade (answer_of (turn_of n.entry)) x.normal n) (goes : (turn_of n.entry).ended ≡ false) where
    abbrev own : TurnFound
    own = record (found_in s run round (turn_of n.entry)) { report = o.report }

    abbrev shown : TurnShown s before between n o own
    shown = record {
      finds = record { streams = (finds links s run d x u z bytes round stands w).streams; commands = (finds links s run d x u z bytes round stands w).commands };
      hears = (λ runs. record { cycle = refl; slots = (λ i low away. refl) });
      polled = (later links s run d x u z bytes round stands w).known_polls;
      pushed = (later links s run d x u z bytes round stands w).known_pushes;
      later = (later links s run d x u z bytes round stands w).history;
      front = front_shown links s run d x u z bytes round stands w o legal;
    }

    left : TurnLeft links s before told_early.deeds between n own
    left = turn_left links s before told_early.deeds between n o own told_early.may (stands_half links s run d x u z bytes round stands w) (together_turned links s run d x u z bytes round stands w) legal made shown
        (known_half links s run d x u z bytes round stands w) lives stands.cells (saw_half links s run d x u z bytes round stands w)

    abbrev turned : Run
    turned = with_turn s own e before

    late_told : CyclesTold links s turned left.deeds (unread between n) (late_of run round) last
    late_told = cycles_told links s (late_of run round) turned left.deeds (unread between n) last left.may (parts links s run d x u z bytes round stands w).back (shown_by left.tells)

    abbrev stored : Run
    stored = with_cycles s (late_of run round) turned

    reports_are : reports_stored u.fast.writer.events ≡ stored.reports
    reports_are = ap (λ (m : MixerState). reports_stored m.writer.events) (cycles links s run d x u z bytes round stands w).ends ∙ late_told.may.told.fast.reports

    counted : ReportsCount stored
    counted = cycles_count s (late_of run round) turned (turn_counts s (λ t. own) (Some e) before (cycles_count s (early_of run round) (with_calls round run) (calls_count round run stands.counts)))

    -- ### The load

    abbrev known : ℕ
    known = stores x.fast.writer.events

    reads_one : n.reader.events ≡ x.normal.reader.events ++ Load legal.lists.reader.0 o.report ∷ []
    reads_one = legal.lists.reader.1 ∙ ap (λ (b : Bool). x.normal.reader.events ++ (if b then [] else Load legal.lists.reader.0 o.report ∷ [])) goes

    loads_one : LoadsOneOf known legal.lists.reader.0 (reports_stored u.fast.writer.events) o.report
    loads_one = round_loads x u z w.meets.ends met legal.lists.reader.0 o.report reads_one grown.stores grown.stored

    loads_here : LoadsOneOf known legal.lists.reader.0 stored.reports o.report
    loads_here = subst (λ (l : List Report). LoadsOneOf known legal.lists.reader.0 l o.report) reports_are loads_one

    loaded : (legal.lists.reader.0 ≡ e.cycle) × (o.report ≡ report_of stored.reports (max known e.cycle))
    loaded = loaded_found known legal.lists.reader.0 stored.reports o.report e.cycle counted.cycles loads_here (legal.legal.goes_on goes).report

    -- the number of the load is the one by which the run finds the report
    number_is : max known e.cycle ≡ load_of (with_calls round run) e
    number_is =
        let first = w.before.fast.0.reports.many in
        let entries = ap (λ (es : List CycleEntry). length es) stands.told.fast.entries in
        let called = ap (λ (es : List CycleEntry). length es) (calls-entries round run) in
        let low = loads_here.known_all in
        let number = loaded.0 in
        let some = loads_here.stored in
        let many = counted.many in
        let log = ap (λ (es : List CycleEntry). length es) (late_told.may.told.fast.entries) in
        let ends = ap (λ (m : MixerState). length m.log.entries) (cycles links s run d x u z bytes round stands w).ends in
        let few = few_added in
        omega (arith, first, entries, called, low, number, some, many, log, ends, few)

    -- ### What the run foresees

    abbrev foreseen : Run
    foreseen = with_cycles s (late_of run round) before

    foreseen_is : with_cycles s round.entries (with_calls round run) ≡ foreseen
    foreseen_is = ap (λ (es : List EntrySeen). with_cycles s es (with_calls round run)) (sym (take-append-drop (early_count run round) round.entries))
        ∙ fold-append _ (with_calls round run) (early_of run round) (late_of run round)

    abbrev number : ℕ
    number = load_of (with_calls round run) e

    found_is : (found_in s run round e).report ≡ report_of foreseen.reports number
    found_is = ap (λ (r : Run). report_of r.reports number) foreseen_is

    loaded_is : o.report ≡ report_of stored.reports number
    loaded_is = loaded.1 ∙ ap (report_of stored.reports) number_is

    same_states : before.states ≡ run.states
    same_states = (before_same s run round).states

    far : FirstLate (length before.states) (late_of run round)
    far = subst (λ (l : ℕ). FirstLate l (late_of run round)) (sym (ap length same_states)) (first_late run round.entries)

    by : LegalTurnBy (setup_of s) no_marks own before.normal e
    by = left.legal no_marks (none_asked before left.deeds)

    abbrev tracks : List TrackKept
    tracks = (after_ack (turn_of n.entry).ack (kept_of x.normal)).tracks

    same_tracks : (after_ack (turn_of n.entry).ack before.normal).tracks ≡ tracks
    same_tracks = ap (λ (m : NormalKept). (after_ack (turn_of n.entry).ack m).tracks) (same_normal ∙ sym kept)

    long_tracks : length tracks ≡ length before.normal.tracks
    long_tracks = acked_len (turn_of n.entry).ack (kept_of x.normal) ∙ ap (λ (m : NormalKept). length m.tracks) (sym (same_normal ∙ sym kept))

    slots_heard : (i : ℕ) → i < length tracks → is_home (track_at tracks i).holder ≡ false → report_at (report_of stored.reports number).slots (slot_number (track_at tracks i)) ≡ report_at (report_of foreseen.reports number).slots (slot_number (track_at tracks i))
    slots_heard i low away =
        ap (λ (ts : List TrackKept). report_at (report_of stored.reports number).slots (slot_number (track_at ts i))) (sym same_tracks)
        ∙ slot_foretold s scales no_marks before own e (late_of run round) few_settings many_tracks goes (subst Carried (sym same_normal) carried)
        (λ exits. subst (λ (m : NormalKept). AllByRecursion IsDone m.tracks) (sym (same_normal ∙ sym kept)) (stands.stands.quiet.over (ap (λ (m : NormalKept). commands_exit m.draft) (sym (same_normal ∙ sym kept)) ∙ exits)))
        by told_early.may.told.fast.fresh far (late_told.legal no_marks (none_asked stored late_told.deeds))
        i (let l = long_tracks in omega (arith, low, l)) (ap (λ (ts : List TrackKept). is_home (track_at ts i).holder) same_tracks ∙ away) number
        ∙ ap (λ (ts : List TrackKept). report_at (report_of foreseen.reports number).slots (slot_number (track_at ts i))) same_tracks

    heard : HeardAlike tracks o.report (found_in s run round e).report
    heard = subst (λ (q : Report × Report). HeardAlike tracks q.0 q.1) (λ j. (sym loaded_is j, sym found_is j)) (record {
      cycle = number_foretold s scales no_marks before own e (late_of run round) number;
      slots = slots_heard;
    })

  -- a mixer that has ended hears nothing
  pub hears_foreseen : Carried run.normal → HearsForeseen s run x u round
  hears_foreseen carried o legal goes = by_end x.normal.ended refl w.plays.normal
    where
      by_end : (b : Bool) → x.normal.ended ≡ b → MatchBool b (n ≡ x.normal) (TurnPlayed x.normal n) → HeardAlike (after_ack (turn_of n.entry).ack (kept_of x.normal)).tracks o.report (found_in s run round (turn_of n.entry)).report
      by_end true over still = absurd (true≢false (sym (legal.legal.ends ∙ (λ j. over j || (commands_exit (kept_of x.normal).last && (turn_of n.entry).ack))) ∙ goes))
      by_end false lives played = heard carried lives o legal played.2 goes
