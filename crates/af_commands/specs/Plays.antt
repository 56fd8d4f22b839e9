-- What the rounds of all parties come to, with the frames of the tracks' files: the sound, the text of the journal and the line. Also what a play leaves if it stops.
use Rattle.std.specs.Prelude.{◌≡◌, ◌⊎◌, ℕ, ◌≤◌, Bool, true, false, List, [], ◌∷◌, length}
use Rattle.af_base.specs.declared.frame.Frame.{Frame}
use Rattle.af_io.specs.Files.{Files, SameFiles, LeavesFront}
use Rattle.af_io.specs.Outputs.{SetsFiles, with_file}
use Rattle.af_journal.specs.Texts.{text_of}
use Rattle.af_journal_laws.specs.Laws.{HoldsAtMeetings}
use Rattle.af_model.specs.Journals.{JournalData}
use Rattle.af_script.specs.Data.{ScriptData}
use Rattle.af_playing.specs.PlayedRuns.{IsLegalJournal}
use Rattle.af_playing.specs.RoundsSoFar.{AreRoundsOf}
use Rattle.af_runs.specs.Pcm.{journal_pcm}
use Rattle.af_offline.specs.Line.{limit_line}
use Rattle.af_commands.specs.Sessions.{summary_line}
use Rattle.af_journal.specs.Readings.{IsOneReading}
use Rattle.af_rendering.specs.Alone.{summary_by}
use Rattle.af_runs.specs.LegalRuns.{run_of}

-- ## One run

-- the line of a run, by its journal alone: that of its summary if all parties have ended, and else that of the limit
abbrev pub run_line : Bool → ScriptData → List (List Frame) → JournalData → List ℕ
run_line true script files journal = summary_line (summary_by script journal (run_of script files journal))
run_line false script files journal = limit_line script.cycles

-- These bytes, this text and this line are of one run of all parties, in which all have ended, or which was cut off when the log was full. The bytes are the sound of its journal. The text is that of the same journal, and has no other reading. By itself that journal is a legal run in which each frame of a lawful client has one fate and each lawful track is spared, or else a cut run. In either, up to each meeting of its two proxies, a block without a poke is spared, each frame released on such a stream block has one fate, and no call of the client of a track without a poke answers that it was shut. Each track that is reported drained has reached its STOP, and a START that was seen settled bounds what is discarded. It has no more rounds than the script has cycles
pub record IsPlay (ended : Bool) (script : ScriptData) (files : List (List Frame)) (bytes text line : List ℕ) : Type 0 where
  pub journal : JournalData
  pub legal : IsLegalJournal ended script files journal
  pub met : HoldsAtMeetings script files journal
  pub few : length journal.rounds ≤ script.cycles
  pub bytes_are : bytes ≡ journal_pcm script.frames journal
  pub text_is : text ≡ text_of journal
  pub read : IsOneReading (length script.tracks) text journal
  pub line_is : line ≡ run_line ended script files journal

-- this is the line of a run of some script with some files, in which all parties have ended
abbrev pub IsSomePlayLine : List ℕ → Type 0
IsSomePlayLine line = (script : ScriptData) × (files : List (List Frame)) × (bytes : List ℕ) × (text : List ℕ) × IsPlay true script files bytes text line

-- ## Its two files

-- the first file holds the bytes and the second the text of one run with this line, and no other file has changed
abbrev pub IsPlayed : Bool → ScriptData → List (List Frame) → List ℕ → List ℕ → List ℕ → Files → Files → Type 0
IsPlayed ended script files target journal line old new =
    (bytes : List ℕ) × (text : List ℕ) × IsPlay ended script files bytes text line
    × SetsFiles old (record { name = target; bytes = bytes } ∷ record { name = journal; bytes = text } ∷ []) new

-- the first file holds the bytes of a run, the second is as before or holds a front of its text, and no other file has changed
abbrev pub LeavesText : ScriptData → List (List Frame) → List ℕ → List ℕ → Files → Files → Type 0
LeavesText script files target journal old new =
    (ended : Bool) × (bytes : List ℕ) × (text : List ℕ) × (line : List ℕ) × IsPlay ended script files bytes text line
    × LeavesFront (with_file old (record { name = target; bytes = bytes })) journal text new

-- no file has changed; or only the file of this name, which holds a front of the sound of a journal whose rounds are the first of a play
abbrev pub LeavesRounds : ScriptData → List (List Frame) → List ℕ → Files → Files → Type 0
LeavesRounds script files name old new = SameFiles old new
    ⊎ ((journal : JournalData) × AreRoundsOf script files journal × LeavesFront old name (journal_pcm script.frames journal) new)

-- What a play leaves if it stops: no file has changed; or the first alone, which holds a front of the sound of some first rounds; or the first is whole, and the second not yet.
abbrev pub LeavesPlay : ScriptData → List (List Frame) → List ℕ → List ℕ → Files → Files → Type 0
LeavesPlay script files target journal old new = LeavesRounds script files target old new ⊎ LeavesText script files target journal old new
