-- What the turns of a script come to with the frames of its tracks' files.
use Rattle.std.specs.Prelude.{◌≡◌, ◌⊎◌, ℕ, List, ◌++◌, codes, take}
use Rattle.af_base.specs.declared.frame.Frame.{Frame}
use Rattle.af_io.specs.Files.{Files, SameFiles, LeavesFront}
use Rattle.af_journal_laws.specs.Laws.{HoldsAtMeetingsAlone}
use Rattle.af_model.specs.Journals.{JournalData}
use Rattle.af_one_turn_run.specs.MetLast.{AllMetLast}
use Rattle.af_render_law.specs.TurnsSoFar.{AreTurnsOf}
use Rattle.af_runs.specs.TurnRuns.{IsTurnRun}
use Rattle.af_script.specs.Data.{ScriptData}
use Rattle.af_tally.specs.declared.summary.Summary.{Summary}
use Rattle.af_runs.specs.Pcm.{journal_pcm}
use Rattle.af_tally.specs.Summaries.{summary_text}
use Rattle.af_one_turn_run.specs.NoPokes.{PlainTracks}
use Rattle.af_render_law.specs.RenderLaws.{run_told}
use Rattle.af_rendering.specs.Alone.{summary_by}

-- the line of a summary
abbrev pub summary_line : Summary → List ℕ
summary_line summary = summary_text summary ++ codes "\n"

-- The journal is by itself a turn run, in which each event sees what all before it left, and the line is that of its summary. Up to each meeting of its two proxies a block without a poke is spared, each frame released on such a stream block has one fate, and no call of the client of a track without a poke answers that it was shut. Each track that is reported drained has reached its STOP, and a START that was seen settled bounds what is discarded. If no op of the script is a poke, any other turn run of this script and these files is this one, provided that in both each stream proxy takes part in the last meeting
pub record IsTurnRunAlone (script : ScriptData) (files : List (List Frame)) (journal : JournalData) (line : List ℕ) : Type 0 where
  pub run : IsTurnRun script files journal
  pub line_is : line ≡ summary_line (summary_by script journal (run_told script files journal))
  pub met : HoldsAtMeetingsAlone script files journal
  pub alone : PlainTracks script.tracks → AllMetLast script files journal → (other : JournalData) → IsTurnRun script files other → AllMetLast script files other → other ≡ journal

-- These bytes and this line are the sound of one journal, which is by itself a turn run, and the line of its summary. If no op is a poke, and each stream proxy takes part in the last meeting, they are a function of the script and the files
pub record IsSession (script : ScriptData) (files : List (List Frame)) (bytes line : List ℕ) : Type 0 where
  pub journal : JournalData
  pub bytes_are : bytes ≡ journal_pcm script.frames journal
  pub told : IsTurnRunAlone script files journal line

-- this is the line of a turn run of some script with some files
abbrev pub IsSomeSessionLine : List ℕ → Type 0
IsSomeSessionLine line = (script : ScriptData) × (files : List (List Frame)) × (bytes : List ℕ) × IsSession script files bytes line

-- What a render leaves if it stops: no file has changed; or only the file of this name, which holds a front of the sound of a journal whose rounds are some first turns of the script
abbrev pub LeavesTurns : ScriptData → List (List Frame) → List ℕ → Files → Files → Type 0
LeavesTurns script files name old new = SameFiles old new
    ⊎ ((n : ℕ) × (journal : JournalData) × AreTurnsOf (record script { turns = take n script.turns }) files journal × LeavesFront old name (journal_pcm script.frames journal) new)
