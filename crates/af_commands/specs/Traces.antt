-- What the rounds of all parties come to with a log: the sound, the texts of the journal and of the log, and the line. Also what such a play leaves if it stops.
use Rattle.std.specs.Prelude.{◌≡◌, ℕ, ◌≤◌, true, List, [], ◌∷◌}
use Rattle.af_base.specs.declared.frame.Frame.{Frame}
use Rattle.af_io.specs.Files.{Files, LeavesFront}
use Rattle.af_io.specs.Outputs.{SetsFiles, with_files}
use Rattle.af_nblog.specs.declared.entries.Note.{Note}
use Rattle.af_nblog.specs.LogText.{log_text}
use Rattle.af_script.specs.Data.{ScriptData}
use Rattle.af_side_by_side.specs.Logging.{IsLogOf}
use Rattle.af_commands.specs.Plays.{IsPlay}

-- the bytes, the journal's text and the line are of one run in which all parties have ended, and the log's text is that of a log of the same journal; with room for 32 notes none was refused
pub record IsTrace (script : ScriptData) (files : List (List Frame)) (room : ℕ) (bytes text log line : List ℕ) : Type 0 where
  pub play : IsPlay true script files bytes text line
  pub notes : List Note
  pub refused : ℕ
  pub log_of : IsLogOf script.frames room play.journal notes refused
  pub log_is : log ≡ log_text notes refused
  pub all_kept : 32 ≤ room → refused ≡ 0

-- the three files hold the bytes and the two texts of one run with this line, and no other file has changed
abbrev pub IsTraced : ScriptData → List (List Frame) → ℕ → List ℕ → List ℕ → List ℕ → List ℕ → Files → Files → Type 0
IsTraced script files room target journal log line old new =
    (bytes : List ℕ) × (text : List ℕ) × (told : List ℕ) × IsTrace script files room bytes text told line
    × SetsFiles old (record { name = target; bytes = bytes } ∷ record { name = journal; bytes = text } ∷ record { name = log; bytes = told } ∷ []) new

-- the first two files are whole, the third is as before or holds a front of its text, and no other file has changed
abbrev pub LeavesLog : ScriptData → List (List Frame) → ℕ → List ℕ → List ℕ → List ℕ → Files → Files → Type 0
LeavesLog script files room target journal log old new =
    (bytes : List ℕ) × (text : List ℕ) × (told : List ℕ) × (line : List ℕ) × IsTrace script files room bytes text told line
    × LeavesFront (with_files old (record { name = target; bytes = bytes } ∷ record { name = journal; bytes = text } ∷ [])) log told new
