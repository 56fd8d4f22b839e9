-- That a play of a script with enough cycles ends.
use Rattle.std.specs.Prelude.{◌≡◌, true, List, length}
use Rattle.af_base.specs.declared.frame.Frame.{Frame}
use Rattle.af_enough.specs.Enough.{HasEnoughCycles}
use Rattle.af_model.specs.Journals.{RoundSeen}
use Rattle.af_runs.specs.LegalRuns.{marks_of, session_of}
use Rattle.af_script.specs.Data.{ScriptData}
use Rattle.af_script.specs.Form.{IsScript}
use Rattle.af_session.specs.NewSession.{IsNewSession}
use Rattle.af_engine.specs.Shares.{SharedState}
use Rattle.af_session.specs.Together.{SessionState}
use Rattle.af_play_law.specs.PlayRuns.{PlaysOn, all_over}

-- Of a session that was made new of an accepted script with enough cycles, and played these rounds: once the log has all of its entries, all parties have ended
abbrev pub PlaysEndInTime : Type 0
PlaysEndInTime = (script : ScriptData) (files : List (List Frame)) (shared : SharedState) (x t : SessionState) (rounds : List RoundSeen) → IsScript script → HasEnoughCycles script → IsNewSession script shared x
    → PlaysOn (session_of script files) (marks_of rounds) x rounds t → length t.fast.log.entries ≡ t.fast.cycles → all_over t ≡ true
