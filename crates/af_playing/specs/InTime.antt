-- That plays of a script with enough cycles end.
use Rattle.std.specs.Prelude.{◌≡◌, true, List}
use Rattle.af_base.specs.declared.frame.Frame.{Frame}
use Rattle.af_enough.specs.Enough.{HasEnoughCycles}
use Rattle.af_model.specs.Journals.{RoundNoted}
use Rattle.af_script.specs.Data.{ScriptData}
use Rattle.af_script.specs.Form.{IsScript}
use Rattle.af_session.specs.Together.{SessionState}
use Rattle.af_playing.specs.PlayedRuns.{Plays, all_ended, is_full}

-- No rounds of an accepted script with enough cycles, whatever its threads do, come to the end of the log with a party still going
abbrev pub EndsInTime : ScriptData → List (List Frame) → Type 0
EndsInTime script files = IsScript script → HasEnoughCycles script → (rounds : List RoundNoted) (t : SessionState) → Plays script files rounds t → is_full t ≡ true → all_ended t ≡ true
