-- What the law on the ends of plays says.
use Rattle.std.specs.Prelude.{List}
use Rattle.af_base.specs.declared.frame.Frame.{Frame}
use Rattle.af_model.specs.Journals.{RoundSeen}
use Rattle.af_runs.specs.LegalRuns.{marks_of, run_of, session_of}
use Rattle.af_script.specs.Data.{ScriptData}
use Rattle.af_session.specs.Ends.{ends_from}
use Rattle.af_session.specs.NewSession.{IsNewSession}
use Rattle.af_engine.specs.Shares.{SharedState}
use Rattle.af_session.specs.Together.{SessionState}
use Rattle.af_told_law.specs.KeptEnds.{KeepsLists}
use Rattle.af_play_law.specs.PlayLaws.{journal_with}
use Rattle.af_play_law.specs.PlayRuns.{PlaysOn}

-- The ends of a session that was made new of a script, and played these rounds, keep the lists of the run that the rounds tell, whether all parties have ended or not
abbrev pub PlaysKeepTheirLists : Type 0
PlaysKeepTheirLists = (script : ScriptData) (files : List (List Frame)) (shared : SharedState) (x t : SessionState) (rounds : List RoundSeen) → IsNewSession script shared x → PlaysOn (session_of script files) (marks_of rounds) x rounds t
    → KeepsLists (run_of script files (journal_with script rounds)) (ends_from t)
