-- Each entry stores one report, and no state is adopted that wasn't pushed.
use Rattle.std.proofs.Common.{◌≡◌, ℕ, ◌+◌, ◌≤◌, nat_le, if◌then◌else◌, Bool, true, false, Some, List, [], ◌∷◌, length, length-append, refl, sym, ap, ◌∙◌, arith}
use Rattle.af_enough_law.proofs.Common.{EntrySeen, LegalRound, Marks, RoundSeen, Run, Session, Turn, after_round, after_turn, all_played, before_turn, calls_states, early_count, early_of, found_in, late_of, leb-true, load_of, max, met_after, min, take-append-drop, with_calls, with_cycle, with_cycles, with_poll}
use Rattle.af_enough_law.proofs.FastWords.{CountsReports, KnowsReports}
use Rattle.af_enough_law.proofs.FastCurrent.{rest_current, turn_current}
use Rattle.af_enough_law.proofs.FastFound.{adds_one, calls_current, cycle_current}
use Rattle.af_enough_law.proofs.FastLoads.{loads_new}
use Rattle.af_enough_law.proofs.FastPolls.{before_states, round_states, turn_more}
use Rattle.af_enough_law.proofs.FastReports.{calls_same, turned_same, loaded_same, met_same, ends_same}
use Rattle.af_enough_law.proofs.FastSteps.{cycle_states, cycles_states}

-- ## Reports

-- as many reports are added as there are entries
pub cycles_reports : (s : Session) (es : List EntrySeen) (run : Run) → length (with_cycles s es run).reports ≡ length run.reports + length es
cycles_reports s [] run = omega arith
cycles_reports s (e ∷ es) run =
    let rest = cycles_reports s es (with_cycle s run e) in
    let added = adds_one s run e in
    let one = ap length added.whole in
    let joined = length-append run.reports (added.report ∷ []) in
    omega (arith, rest, one, joined)

cycles_entries : (s : Session) (es : List EntrySeen) (run : Run) → length (with_cycles s es run).entries ≡ length run.entries + length es
cycles_entries s [] run = omega arith
cycles_entries s (e ∷ es) run =
    let rest = cycles_entries s es (with_cycle s run e) in
    let one = ap length (cycle_current s run e).1 in
    let joined = length-append run.entries (e.entry ∷ []) in
    omega (arith, rest, one, joined)

module _ (s : Session) (run : Run) (round : RoundSeen) where
  abbrev late : Run
  late = with_cycles s (late_of run round) (after_turn s run round)

  both : length (early_of run round) + length (late_of run round) ≡ length round.entries
  both = sym (length-append (early_of run round) (late_of run round)) ∙ ap length (take-append-drop (early_count run round) round.entries)

  -- what a round adds to each
  pub round_reports : length (after_round s run round).reports ≡ length run.reports + length round.entries
  round_reports =
      let a = ap length ((ends_same (met_after s run round)).reports ∙ (met_same s (all_played s run round)).reports ∙ (loaded_same round.turn late).reports) in
      let b = cycles_reports s (late_of run round) (after_turn s run round) in
      let c = ap length (turned_same s (found_in s run round) round.turn (before_turn s run round)).reports in
      let d = cycles_reports s (early_of run round) (with_calls round run) in
      let e = ap length (calls_same round run).reports in
      let f = both in
      omega (arith, a, b, c, d, e, f)

  pub round_logged : length (after_round s run round).entries ≡ length run.entries + length round.entries
  round_logged =
      let a = ap length ((ends_same (met_after s run round)).entries ∙ (met_same s (all_played s run round)).entries ∙ (loaded_same round.turn late).entries) in
      let b = cycles_entries s (late_of run round) (after_turn s run round) in
      let c = ap length (turned_same s (found_in s run round) round.turn (before_turn s run round)).entries in
      let d = cycles_entries s (early_of run round) (with_calls round run) in
      let e = ap length (calls_same round run).entries in
      let f = both in
      omega (arith, a, b, c, d, e, f)

  -- the report that a turn finds is among those that it may load
  pub found_within : (marks : Marks) (cut : Bool) (e : Turn) → LegalRound cut s marks run round → CountsReports run → KnowsReports run → round.turn ≡ Some e → e.ended ≡ false → length run.reports ≡ length run.entries
      → (length run.reports ≤ load_of (with_calls round run) e) × (load_of (with_calls round run) e ≤ length (with_cycles s round.entries (with_calls round run)).reports)
  found_within marks cut e legal counts knows is runs same =
      let load = loads_new cut s marks run round e legal counts knows is runs in
      let low = load.0 in
      let high = load.1 in
      let after = round_reports in
      let found = cycles_reports s round.entries (with_calls round run) in
      let calls = ap length (calls_same round run).reports in
      let logged = ap length (calls_same round run).entries in
      let first : length run.reports ≤ min (max (length (with_calls round run).entries) e.cycle) (length (with_calls round run).entries + 16) = omega (arith, low, logged, same) in
      let last : min (max (length (with_calls round run).entries) e.cycle) (length (with_calls round run).entries + 16) ≤ length (with_cycles s round.entries (with_calls round run)).reports = omega (arith, low, high, after, found, calls, logged, same) in
      (first, last)

-- ## The state adopted

poll_high : (s : Session) (run : Run) (k : ℕ) → run.current ≤ length run.states → (with_poll s k run).current ≤ length run.states
unfolding with_poll
poll_high s run k low = by (nat_le k (length run.states)) refl
  where
    by : (b : Bool) → nat_le k (length run.states) ≡ b → (if b then k else run.current) ≤ length run.states
    by true is = leb-true k (length run.states) is
    by false is = low

cycles_high : (s : Session) (es : List EntrySeen) (run : Run) → run.current ≤ length run.states → (with_cycles s es run).current ≤ length (with_cycles s es run).states
cycles_high s [] run low = low
cycles_high s (e ∷ es) run low =
    let now = poll_high s run e.entry.state low in
    let same = (cycle_current s run e).0 in
    let states = ap length (cycle_states s run e) in
    cycles_high s es (with_cycle s run e) (omega (arith, now, same, states))

-- the state adopted after a round was pushed
pub round_high : (s : Session) (run : Run) (round : RoundSeen) → run.current ≤ length run.states → (after_round s run round).current ≤ length (after_round s run round).states
round_high s run round low =
    let called : Run = with_calls round run in
    let first = (calls_current round run).0 in
    let states = ap length (calls_states round run) in
    let early = cycles_high s (early_of run round) called (omega (arith, low, first, states)) in
    let turn = turn_current s run round in
    let pushed = ap length (turn_more s run round).whole in
    let more = length-append run.states (turn_more s run round).more in
    let before = ap length (before_states s run round) in
    let done = cycles_high s (late_of run round) (after_turn s run round) (omega (arith, early, turn, pushed, more, before)) in
    let current = rest_current s run round in
    let all = ap length (cycles_states s (late_of run round) (after_turn s run round)) in
    let last = ap length (round_states s run round) in
    omega (arith, done, current, all, last)
