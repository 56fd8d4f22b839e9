-- Each report of a run has the number of entries that it is of.
use Rattle.std.proofs.Common.{◌≡◌, ℕ, Bool, true, false, if◌then◌else◌, List, [], ◌∷◌, length, length-append, Option, Some, None, refl, subst, arith}
use Rattle.af_play_law.proofs.Common.{CycleEntry, EntrySeen, Report, RoundSeen, Run, Session, TrackTold, Turn, TurnFound, after_round, after_turn, all_played, before_turn, each_track, early_of, ends, found_in, late_of, loaded, met, met_after, new_run, next_report, turned, with_calls, with_cycle, with_cycles, with_ends, with_load, with_looks, with_mix, with_poll, with_turn}
use Rattle.af_play_law.specs.Loads.{CountUp}
use Rattle.af_play_law.specs.RoundPlayed.{ReportsCount}
use Rattle.af_play_law.proofs.RoundLoads.{count_on}

pub new_counts : (s : Session) → ReportsCount (new_run s)
new_counts s = record { many = refl; cycles = tt }

same_counts : (a b : Run) → a.reports ≡ b.reports → a.entries ≡ b.entries → ReportsCount a → ReportsCount b
same_counts a b reports entries h = record { many = subst (λ (w : List Report × List CycleEntry). length w.0 ≡ length w.1) (λ j. (reports j, entries j)) h.many; cycles = subst (CountUp 0) reports h.cycles }

-- the reports are counted after an entry more
cycle_counts : (s : Session) (run : Run) (e : EntrySeen) → ReportsCount run → ReportsCount (with_cycle s run e)
unfolding with_poll with_mix
cycle_counts s run e h =
    let now : Run = with_looks s e (with_poll s e.entry.state run) in
    let report : Report = next_report s now e.entry in
    let a = length-append run.reports (report ∷ []) in
    let b = length-append run.entries (e.entry ∷ []) in
    let m = h.many in
    record { many = omega (arith, a, b, m); cycles = count_on 0 run.reports report h.cycles (omega (arith, m)) }

pub cycles_count : (s : Session) (es : List EntrySeen) (run : Run) → ReportsCount run → ReportsCount (with_cycles s es run)
cycles_count s [] run h = h
cycles_count s (e ∷ es) run h = cycles_count s es (with_cycle s run e) (cycle_counts s run e h)

pub turn_counts : (s : Session) (found : Turn → TurnFound) (o : Option Turn) (run : Run) → ReportsCount run → ReportsCount (turned s found o run)
unfolding with_turn
turn_counts s found None run h = h
turn_counts s found (Some e) run h = same_counts run (with_turn s (found e) e run) refl refl h

load_counts : (o : Option Turn) (run : Run) → ReportsCount run → ReportsCount (loaded o run)
unfolding with_load
load_counts None run h = h
load_counts (Some e) run h = same_counts run (with_load e run) refl refl h

ends_count : (run : Run) → ReportsCount run → ReportsCount (with_ends run)
unfolding with_ends
ends_count run h = by_end run.normal.ended
  where
    by_end : (b : Bool) → ReportsCount (if b then each_track (λ (track : ℕ) (t : TrackTold). record t { client = ends t.client }) run else run)
    by_end true = same_counts run (each_track (λ (track : ℕ) (t : TrackTold). record t { client = ends t.client }) run) refl refl h
    by_end false = h

pub calls_count : (round : RoundSeen) (run : Run) → ReportsCount run → ReportsCount (with_calls round run)
unfolding with_calls
calls_count round run h = same_counts run (with_calls round run) refl refl h

met_counts : (s : Session) (run : Run) → ReportsCount run → ReportsCount (met s run)
unfolding met
met_counts s run h = same_counts run (met s run) refl refl h

-- the reports stored up to the load of a round are counted
pub round_counts : (s : Session) (run : Run) (round : RoundSeen) → ReportsCount run → ReportsCount (with_cycles s (late_of run round) (after_turn s run round))
round_counts s run round h =
    cycles_count s (late_of run round) (after_turn s run round)
    (turn_counts s (found_in s run round) round.turn (before_turn s run round) (cycles_count s (early_of run round) (with_calls round run) (calls_count round run h)))

pub after_counts : (s : Session) (run : Run) (round : RoundSeen) → ReportsCount run → ReportsCount (after_round s run round)
after_counts s run round h =
    ends_count (met_after s run round) (met_counts s (all_played s run round)
    (load_counts round.turn (with_cycles s (late_of run round) (after_turn s run round)) (round_counts s run round h)))
