-- What is found of the two files of a play in which all parties have ended.
use Rattle.std.specs.Prelude.{◌≡◌, ℕ, ◌<◌, true, List, length}
use Rattle.af_audit.specs.declared.verdict.Verdict.{Verdict}
use Rattle.af_audit.specs.declared.verdict.Verdict.TheVariants.{Legal}
use Rattle.af_base.specs.declared.frame.Frame.{Frame}
use Rattle.af_script.specs.Data.{ScriptData}
use Rattle.af_commands.specs.Plays.{IsPlay}
use Rattle.af_offline.specs.Verified.{IsJudged}

-- the sound and the text are found legal, and nothing else is found of them
pub record IsFoundLegal (script : ScriptData) (files : List (List Frame)) (bytes text : List ℕ) : Type 0 where
  pub legal : IsJudged script files bytes text Legal
  pub only : (found : Verdict) → IsJudged script files bytes text found → found ≡ Legal

-- if these bytes, this text and this line are of one run of a script with a track, in which all parties have ended, the sound and the text are found legal
abbrev pub PlayIsFoundLegal : ScriptData → List (List Frame) → List ℕ → List ℕ → List ℕ → Type 0
PlayIsFoundLegal script files bytes text line = 0 < length script.tracks → IsPlay true script files bytes text line → IsFoundLegal script files bytes text
