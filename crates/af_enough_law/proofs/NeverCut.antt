-- No journal of an accepted script whose tracks play through, and whose cycles are enough, is that of a run that was cut off.
use Rattle.std.proofs.Common.{◌≡◌, ℕ, ◌+◌, ◌≤◌, ◌<◌, true, List, length, take, arith}
use Rattle.af_enough_law.proofs.Common.{Frame, HasEnoughCycles, IsCutRun, IsScript, JournalData, Marks, RoundSeen, ScriptData, Session, all_ended, enough_rounds, marks_of, new_run, run_from, session_of, true_from_ne_false}
use Rattle.af_enough_law.specs.Ending.{RoundsEndInTime, StillGoes}
use Rattle.af_enough_law.proofs.LongRuns.{AreCutOff}
use Rattle.af_enough_law.proofs.Ends.{AllOver}
use Rattle.af_enough_law.proofs.LongRuns as long_runs
use Rattle.af_enough_law.proofs.NearSums.{near_costs}
use Rattle.af_enough_law.proofs.NotOver.{goes_not_over}
use Rattle.af_enough_law.proofs.RunBegins.{track_plays}
use Rattle.af_enough_law.proofs.RunMarks.{run_lawful}
use Rattle.af_enough_law.proofs.StartDone.{most_of, total_of}
use Rattle.af_enough_law.proofs.StartFirst.{middle_begins}
use Rattle.af_enough_law.proofs.StartNever.{start_never}

-- By marks that call each command block lawful no run still goes after as many rounds as are enough. Of the stream blocks nothing is asked
pub never-going : (script : ScriptData) (files : List (List Frame)) (marks : Marks) (is : IsScript script) (enough : HasEnoughCycles script) (lawful : (i : ℕ) → i < length script.tracks → marks.commands i ≡ true) → StillGoes script files marks → ⊥
never-going script files marks is enough lawful goes =
    let s : Session = session_of script files in
    let costs = near_costs script files 0 is.track_count.0 (track_plays script files 0 is enough.form is.track_count.0) in
    let count = goes.count in
    let never : (k : ℕ) → k + 10 ≤ enough_rounds script → AllOver (run_from s (new_run s) (take k goes.rounds)).normal.tracks → ⊥ = λ k few. goes_not_over script files marks is goes k few in
    start_never script files marks is enough lawful goes.rounds goes.count goes.legal never 7 (omega arith) (most_of s) (total_of s)
    (middle_begins script files marks is enough.form lawful goes.rounds (omega (arith, count, costs)) goes.legal (λ k few. never k (omega (arith, few, costs))))

-- by marks that call each command block lawful no rounds are cut off
pub never-cut-off : (script : ScriptData) (files : List (List Frame)) (marks : Marks) (rounds : List RoundSeen) → IsScript script → HasEnoughCycles script → ((i : ℕ) → i < length script.tracks → marks.commands i ≡ true)
    → AreCutOff script files marks rounds → ⊥
never-cut-off script files marks rounds is enough lawful cut = never-going script files marks is enough lawful (long_runs.long script files marks rounds enough cut)

-- by marks that call each command block lawful all parties have ended once the log is full
pub rounds_end_in_time : (script : ScriptData) (files : List (List Frame)) (marks : Marks) (rounds : List RoundSeen) → RoundsEndInTime script files marks rounds
rounds_end_in_time script files marks rounds is enough lawful legal full =
    let s = session_of script files in
    true_from_ne_false (all_ended s (run_from s (new_run s) rounds)) (λ going. never-cut-off script files marks rounds is enough lawful (record { legal = legal; full = full; going = going }))

-- no run of such a script is cut off
pub never-cut : (script : ScriptData) (files : List (List Frame)) (j : JournalData) → IsScript script → HasEnoughCycles script → IsCutRun script files j → ⊥
never-cut script files j is enough cut =
    let off = long_runs.cut_off script files j cut in
    never-cut-off script files (marks_of j.rounds) j.rounds is enough (λ i named. run_lawful true true script files (marks_of j.rounds) j.rounds i is enough.form named off.legal) off
