-- How a sound and the text of its journal are judged by a script and the frames of its tracks' files.
use Rattle.std.specs.Prelude.{◌≡◌, ℕ, ◌+◌, ◌<◌, Bool, true, false, List, length, Option, Some, None, String, string_bytes, Result, Ok, Err}
use Rattle.std.specs.declared.alloc.Global.{Global}
use Rattle.af_base.specs.declared.frame.Frame.{Frame}
use Rattle.af_journal.specs.Beginnings.{IsFrontOf}
use Rattle.af_journal.specs.declared.building.Front.{Front}
use Rattle.af_journal.specs.declared.building.JournalFault.{JournalFault}
use Rattle.af_journal.specs.declared.building.JournalFault.TheVariants as fault
use Rattle.af_journal.specs.Judged.{EndsBeyond, judged_of, most_entries, most_judged, most_looks}
use Rattle.af_journal.specs.Readings.{HasReading, IsFirstBad, IsOneReading}
use Rattle.af_audit.specs.Verdicts.{IsVerdict}
use Rattle.af_audit.specs.declared.verdict.Refusal.TheVariants as refused
use Rattle.af_audit.specs.declared.verdict.Verdict.{Verdict}
use Rattle.af_audit.specs.declared.verdict.Verdict.TheVariants as verdict
use Rattle.af_model.specs.Journals.{JournalData}
use Rattle.af_script.specs.Data.{ScriptData}
use Rattle.af_offline.specs.Asked as asked
use Rattle.af_offline.specs.Line.{legal_text}
use Rattle.af_offline.specs.Loading.{loaded_view}
use Rattle.af_offline.specs.declared.verifying.Case.{Case}
use Rattle.af_offline.specs.declared.status.Ending.TheVariants as ending
use Rattle.af_offline.specs.declared.status.Stop.{Stop}
use Rattle.af_offline.specs.declared.status.Stop.TheVariants.{Over, Memory}

-- What is found of a sound and the text of its journal: the first bad line of a text without a reading, and else the verdict on the judged part of its one reading and on the sound
abbrev pub IsJudged : ScriptData → List (List Frame) → List ℕ → List ℕ → Verdict → Type 0
IsJudged script files pcm text (verdict.Refused (refused.Text line)) = IsFirstBad (HasReading (length script.tracks)) text line
IsJudged script files pcm text found = (journal : JournalData) × IsOneReading (length script.tracks) text journal × IsVerdict script files (judged_of journal) pcm found

-- how the command ends if a text wasn't read
abbrev pub unread : JournalFault → Stop
unread (fault.Line number) = Over (ending.Judged (refused.Text number))
unread fault.Memory = Memory

-- a text is refused at its first bad line, or memory ran out
abbrev pub IsUnread : Stop → ScriptData → List ℕ → Type 0
IsUnread (Over (ending.Judged (refused.Text line))) script text = IsFirstBad (HasReading (length script.tracks)) text line
IsUnread Memory script text = Unit {0}
IsUnread stop script text = ⊥

-- what a text begins with was read, or the text refused
abbrev pub BeginsTo : Result Front Stop → ScriptData → List ℕ → Type 0
BeginsTo (Ok front) script text = IsFrontOf most_judged (length script.tracks) text front.whole front.journal
BeginsTo (Err stop) script text = IsUnread stop script text

-- a text was read to its end or to a round that is at fault, or the text refused
abbrev pub ReadsTo : Result Front Stop → ScriptData → List ℕ → Type 0
ReadsTo (Ok front) script text = IsFrontOf most_judged (length script.tracks) text front.whole front.journal × (front.whole ≡ false → EndsBeyond most_entries most_looks front.journal)
ReadsTo (Err stop) script text = IsUnread stop script text

-- what is found of the front of a journal holds of the whole: the front is the whole, or the fault is in a round before the front's last one
abbrev pub Tells : Verdict → Bool → ℕ → Type 0
Tells found true rounds = Unit {0}
Tells (verdict.Refused (refused.Round round party)) false rounds = round + 1 < rounds
Tells found false rounds = ⊥

-- the line of what was found, or its refusal
abbrev pub FoundTo : Result (String Global) Stop → Verdict → Type 0
FoundTo (Ok line) found = (string_bytes line ≡ legal_text) × (found ≡ verdict.Legal)
FoundTo (Err (Over (ending.Judged refusal))) found = found ≡ verdict.Refused refusal
FoundTo (Err Memory) found = Unit {0}
FoundTo (Err stop) found = ⊥

-- what is found of the sound and the text of a case
abbrev pub IsJudgedIn : asked.JudgedCase → Verdict → Type 0
IsJudgedIn c found = IsJudged c.loaded.script c.loaded.files c.pcm c.text found

-- something was found of a sound and the text of its journal, or the text refused
abbrev pub Finds : Result Verdict Stop → asked.JudgedCase → Type 0
Finds (Ok found) c = IsJudgedIn c found
Finds (Err stop) c = IsUnread stop c.loaded.script c.text

-- something was found of a sound and the text of its journal, or it is still open, or the text refused
abbrev pub FindsFront : Result (Option Verdict) Stop → asked.JudgedCase → Type 0
FindsFront (Ok None) c = Unit {0}
FindsFront (Ok (Some found)) c = IsJudgedIn c found
FindsFront (Err stop) c = IsUnread stop c.loaded.script c.text

-- a sound and the text of its journal were judged
abbrev pub JudgesTo : Result (String Global) Stop → asked.JudgedCase → Type 0
JudgesTo (Ok line) c = (string_bytes line ≡ legal_text) × IsJudgedIn c verdict.Legal
JudgesTo (Err (Over (ending.Judged refusal))) c = IsJudgedIn c (verdict.Refused refusal)
JudgesTo (Err Memory) c = Unit {0}
JudgesTo (Err stop) c = ⊥

-- what was loaded to be judged
abbrev pub case_view : Case → asked.JudgedCase
case_view c = record { loaded = loaded_view c.loaded; pcm = c.pcm.items; text = c.text.items }
