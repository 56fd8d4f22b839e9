-- What is made of what was played: the answer, the text of the journal, and the count of faults.
use Rattle.std.specs.Prelude.{◌≡◌, ◌⊎◌, ℕ, List, Some, String, string_bytes, Result, Ok, Err}
use Rattle.std.specs.declared.alloc.Global.{Global}
use Rattle.af_io.specs.Files.{Files, SameFiles, SetsFile, LeavesFront}
use Rattle.af_io.specs.declared.store.StoreError.{StoreError}
use Rattle.af_journal.specs.Texts.{text_of}
use Rattle.af_model.specs.Journals.{JournalData}
use Rattle.af_playing.specs.declared.answering.PlayFault.{PlayFault}
use Rattle.af_playing.specs.declared.answering.PlayFault.TheVariants as fault
use Rattle.af_rendering.specs.declared.rendering.Outcome.{Outcome}
use Rattle.af_rendering.specs.declared.rendering.Played.{Played}
use Rattle.af_tally.specs.declared.summary.Summary.{Summary}
use Rattle.af_offline.specs.declared.status.Ending.TheVariants.{Limit}
use Rattle.af_offline.specs.declared.status.Stop.{Stop}
use Rattle.af_offline.specs.declared.status.Stop.TheVariants.{Over, Store, Memory}
use Rattle.af_commands.specs.Sessions.{summary_line}
use Rattle.af_offline.specs.Status.{HasFault, StopsOutside, stop_of}

-- ## The answer

-- the answer is the line of a summary; memory may run out
abbrev pub TellsLine : Summary → Result (String Global) Stop → Type 0
TellsLine summary (Ok line) = string_bytes line ≡ summary_line summary
TellsLine summary (Err stop) = stop ≡ Memory

-- the answer is the line of a render, or the stop of the store's error
abbrev pub TellsRender : Result Outcome StoreError → Result (String Global) Stop → Type 0
TellsRender (Ok outcome) result = TellsLine outcome.summary result
TellsRender (Err error) result = result ≡ Err (stop_of error)

-- the answer is the line of a summary; the outside may stop it
abbrev pub TellsEnded : Summary → Result (String Global) Stop → Type 0
TellsEnded summary (Ok line) = string_bytes line ≡ summary_line summary
TellsEnded summary (Err stop) = StopsOutside stop

-- the answer is the limit of so many cycles; the outside may stop it
abbrev pub TellsLimit : ℕ → Result (String Global) Stop → Type 0
TellsLimit cycles (Ok line) = ⊥
TellsLimit cycles (Err (Over ending)) = ending ≡ Limit cycles
TellsLimit cycles (Err stop) = StopsOutside stop

-- the answer of a play: its line if all parties have ended, the limit if it was cut off, and else what stopped it
abbrev pub Tells : ℕ → Result Played PlayFault → Result (String Global) Stop → Type 0
Tells cycles (Ok played) result = TellsEnded played.summary result
Tells cycles (Err (fault.CycleLimit journal ends)) result = TellsLimit cycles result
Tells cycles (Err fault.Store) result = result ≡ Err Store
Tells cycles (Err fault.Memory) result = result ≡ Err Memory

-- ## The files

-- the file holds the text of the journal; if the outside stopped it, the file is as before or holds a front of the text
abbrev pub WritesText : List ℕ → JournalData → Result (String Global) Stop → Files → Files → Type 0
WritesText name journal (Ok line) old new = SetsFile old name (Some (text_of journal)) new
WritesText name journal (Err (Over over)) old new = SetsFile old name (Some (text_of journal)) new
WritesText name journal (Err stop) old new = LeavesFront old name (text_of journal) new

-- what becomes of the files when a play is answered: its journal is written, if it has one
abbrev pub TellsText : List ℕ → Result Played PlayFault → Result (String Global) Stop → Files → Files → Type 0
TellsText name (Ok played) result old new = WritesText name played.journal result old new
TellsText name (Err (fault.CycleLimit journal ends)) result old new = WritesText name journal result old new
TellsText name (Err fault.Store) result old new = SameFiles old new
TellsText name (Err fault.Memory) result old new = SameFiles old new

-- the first file holds the text of the journal, and the second that of the log; if the outside stopped it, the file that comes last is as before or holds a front of its text
abbrev pub WritesTexts : List ℕ → List ℕ → List ℕ → JournalData → Result (String Global) Stop → Files → Files → Type 0
WritesTexts name log text journal (Ok line) old new = (mid : Files) × SetsFile old name (Some (text_of journal)) mid × SetsFile mid log (Some text) new
WritesTexts name log text journal (Err stop) old new =
    LeavesFront old name (text_of journal) new ⊎ ((mid : Files) × SetsFile old name (Some (text_of journal)) mid × LeavesFront mid log text new)

-- what becomes of the files when a play with a log is answered: its journal is written, if it has one, and its log if all parties have ended
abbrev pub TellsTexts : List ℕ → List ℕ → List ℕ → Result Played PlayFault → Result (String Global) Stop → Files → Files → Type 0
TellsTexts name log text (Ok played) result old new = WritesTexts name log text played.journal result old new
TellsTexts name log text (Err stopped) result old new = TellsText name (Err stopped) result old new

-- ## The faults

-- what becomes of the count of the store's faults when a play is answered; if the store stopped the play, the count has risen before
abbrev pub TellsCause : ℕ → ℕ → Result Played PlayFault → Result (String Global) Stop → Type 0
TellsCause before now (Ok played) result = HasFault before now result
TellsCause before now (Err (fault.CycleLimit journal ends)) result = HasFault before now result
TellsCause before now (Err fault.Store) result = now ≡ before
TellsCause before now (Err fault.Memory) result = now ≡ before
