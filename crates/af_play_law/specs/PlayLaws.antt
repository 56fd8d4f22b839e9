-- What the law on plays says.
use Rattle.std.specs.Prelude.{◌≡◌, true, List, length}
use Rattle.af_base.specs.declared.frame.Frame.{Frame}
use Rattle.af_model.specs.JournalForm.{IsJournal}
use Rattle.af_model.specs.Journals.{JournalData, RoundSeen}
use Rattle.af_runs.specs.LegalRuns.{marks_of, run_of, session_of, HasLegalRounds}
use Rattle.af_runs.specs.Runs.{all_ended}
use Rattle.af_script.specs.Data.{ScriptData}
use Rattle.af_session.specs.NewSession.{IsNewSession}
use Rattle.af_engine.specs.Shares.{SharedState}
use Rattle.af_session.specs.Together.{SessionState}
use Rattle.af_play_law.specs.PlayRuns.{PlaysOn, all_over}

-- the journal of these rounds
abbrev pub journal_with : ScriptData → List RoundSeen → JournalData
journal_with script rounds = record { tracks = length script.tracks; rounds = rounds }

-- a run so far after which all parties have ended, and so a legal run (LegalAtTheEnd)
pub record EndsAsRun (script : ScriptData) (files : List (List Frame)) (j : JournalData) : Type 0 where
  pub so_far : HasLegalRounds true script files j
  pub ended : all_ended (session_of script files) (run_of script files j) ≡ true

-- Of a session that was made new of a script, and played these rounds until all parties had ended, the rounds are by themselves those of a run of the script and its files, if they have the form of a journal
abbrev pub PlaysAreToldAlone : Type 0
PlaysAreToldAlone = (script : ScriptData) (files : List (List Frame)) (shared : SharedState) (x t : SessionState) (rounds : List RoundSeen) → IsNewSession script shared x → PlaysOn (session_of script files) (marks_of rounds) x rounds t → all_over t ≡ true
    → IsJournal (journal_with script rounds) → EndsAsRun script files (journal_with script rounds)
