-- The load of the report in a round of all parties is that of its number among all that are stored, and with it the run tells the session before the meetings.
use Rattle.std.proofs.Common.{◌≡◌, ◌⊎◌, ℕ, Bool, true, false, if◌then◌else◌, List, [], ◌∷◌, ◌++◌, Option, Some, None, refl, sym, ap, subst, ◌∙◌, arith}
use Rattle.af_play_law.proofs.Common.{Deeds, IsLegal, Links, Load, MatchBool, NormalState, Outside, QueueKnown, ReaderEvent, ReaderSide, Report, RoundSeen, Run, Session, SessionState, Tells, Turn, TurnPlayed, WriterEvent, after_turn, all_played, cycle_frames, going, late_of, loaded, max, report_of, reports_stored, stores, turn_of, with_cycles}
use Rattle.af_told_law.proofs.LoadTold.{known_loaded, load_told}
use Rattle.af_play_law.specs.Loads.{LoadsOneOf, MetLast}
use Rattle.af_play_law.specs.RoundPlayed.{PlayStands, ReportsCount, RoundPlayed}
use Rattle.af_play_law.proofs.Words.{HearsForeseen}
use Rattle.af_play_law.proofs.AfterTurn.{late_told, told_unloaded, turn_told}
use Rattle.af_play_law.proofs.BeforeTurn.{known_quiet, quiet_cycles}
use Rattle.af_play_law.proofs.CyclesGrow.{EndsGrow, turned_grows}
use Rattle.af_play_law.proofs.ReportsCount.{round_counts}
use Rattle.af_play_law.proofs.RoundLoads.{loaded_found, met_before, round_loads}

module _ (links : Links) (s : Session) (run : Run) (d : Deeds) (x u z : SessionState) (bytes : List ℕ) (round : RoundSeen) (stands : PlayStands s run d x) (w : RoundPlayed links s x u z bytes round) (hears : HearsForeseen s run x u round) where
  abbrev n : NormalState
  n = u.normal

  abbrev e : Turn
  e = turn_of n.entry

  -- the run with all entries
  abbrev stored : Run
  stored = with_cycles s (late_of run round) (after_turn s run round)

  abbrev deeds : Deeds
  deeds = (late_told links s run d x u z bytes round stands w hears).deeds

  told_before : Tells s stored deeds (record u { normal = record n { reader = x.normal.reader } })
  told_before = told_unloaded links s run d x u z bytes round stands w hears

  reports_are : reports_stored u.fast.writer.events ≡ stored.reports
  reports_are = told_before.fast.reports

  counted : ReportsCount stored
  counted = round_counts s run round stands.counts

  met : ((x.fast.writer.events ≡ []) × (x.normal.reader.events ≡ [])) ⊎ MetLast x.fast.writer.events x.normal.reader.events
  met = subst (λ (q : List (WriterEvent Report) × List (ReaderEvent Report)). ((q.0 ≡ []) × (q.1 ≡ [])) ⊎ MetLast q.0 q.1) (λ j. (sym stands.told.shared.writer j, sym stands.told.shared.reader j)) (met_before run stands.report)

  grown : EndsGrow x.fast u.fast
  grown = turned_grows links x.fast bytes u.fast w.plays.fast

  module _ (o : Outside) (legal : IsLegal o x.normal n) where
    reads_one : e.ended ≡ false → n.reader.events ≡ x.normal.reader.events ++ Load legal.lists.reader.0 o.report ∷ []
    reads_one goes = legal.lists.reader.1 ∙ ap (λ (b : Bool). x.normal.reader.events ++ (if b then [] else Load legal.lists.reader.0 o.report ∷ [])) goes

    load_is : n.reader.events ≡ x.normal.reader.events ++ going e (Load e.cycle (report_of stored.reports e.cycle) ∷ [])
    load_is = by_end e.ended refl
      where
        by_end : (b : Bool) → e.ended ≡ b → n.reader.events ≡ x.normal.reader.events ++ going e (Load e.cycle (report_of stored.reports e.cycle) ∷ [])
        by_end true over =
            legal.lists.reader.1 ∙ ap (λ (b : Bool). x.normal.reader.events ++ (if b then [] else Load legal.lists.reader.0 o.report ∷ [])) over
            ∙ ap (λ (b : Bool). x.normal.reader.events ++ (if b then [] else Load e.cycle (report_of stored.reports e.cycle) ∷ [])) (sym over)
        by_end false goes =
            let k : ℕ = legal.lists.reader.0 in
            let known : ℕ = stores x.fast.writer.events in
            let one : LoadsOneOf known k (reports_stored u.fast.writer.events) o.report = round_loads x u z w.meets.ends met k o.report (reads_one goes) grown.stores grown.stored in
            let here : LoadsOneOf known k stored.reports o.report = subst (λ (l : List Report). LoadsOneOf known k l o.report) reports_are one in
            let is = loaded_found known k stored.reports o.report e.cycle counted.cycles here (legal.legal.goes_on goes).report in
            let number : max known e.cycle ≡ e.cycle = (let a = here.known_all in let b = is.0 in omega (arith, a, b)) in
            reads_one goes ∙ (λ i. x.normal.reader.events ++ Load (is.0 i) ((is.1 ∙ ap (report_of stored.reports) number) i) ∷ [])
            ∙ ap (λ (b : Bool). x.normal.reader.events ++ (if b then [] else Load e.cycle (report_of stored.reports e.cycle) ∷ [])) (sym goes)

  -- the run with the load tells the session, if the mixer had ended, and if it hadn't
  told_by : (b : Bool) → x.normal.ended ≡ b → MatchBool b (n ≡ x.normal) (TurnPlayed x.normal n) → Tells s (all_played s run round) deeds u
  told_by true over still =
      let none : round.turn ≡ None = w.notes.turn ∙ ap (λ (b : Bool). if b then None else Some (turn_of n.entry)) over in
      let same : x.normal.reader ≡ n.reader = sym (ap (λ (m : NormalState). m.reader) still) in
      subst (λ (q : Option Turn × ReaderSide). Tells s (loaded q.0 stored) deeds (record u { normal = record n { reader = q.1 } })) (λ j. (sym none j, same j)) told_before
  told_by false lives (o, legal, made) =
      let one : round.turn ≡ Some e = w.notes.turn ∙ ap (λ (b : Bool). if b then None else Some (turn_of n.entry)) lives in
      subst (λ (q : Option Turn). Tells s (loaded q stored) deeds u) (sym one) (load_told s stored u x.normal.reader e told_before (load_is o legal))

  pub told_loaded : Tells s (all_played s run round) (late_told links s run d x u z bytes round stands w hears).deeds u
  told_loaded = told_by x.normal.ended refl w.plays.normal

  -- the queue is known with all that is stored
  known_stored : QueueKnown (cycle_frames s) stored n
  known_stored = known_quiet (cycle_frames s) (after_turn s run round) stored n (quiet_cycles s (late_of run round) (after_turn s run round)) (turn_told links s run d x u z bytes round stands w hears).known

  known_by : (t : Option Turn) → QueueKnown (cycle_frames s) (loaded t stored) n
  known_by None = known_stored
  known_by (Some t) = known_loaded (cycle_frames s) stored t n known_stored

  pub known_all : QueueKnown (cycle_frames s) (all_played s run round) u.normal
  known_all = known_by round.turn
