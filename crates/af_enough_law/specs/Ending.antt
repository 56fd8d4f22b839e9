-- What is to be shown of a script with enough cycles, and what a cut run would be.
use Rattle.std.specs.Prelude.{◌≡◌, ℕ, ◌<◌, Bool, true, false, List, length}
use Rattle.af_base.specs.declared.frame.Frame.{Frame}
use Rattle.af_model.specs.Journals.{RoundSeen, JournalData}
use Rattle.af_script.specs.Data.{ScriptData}
use Rattle.af_script.specs.Form.{IsScript}
use Rattle.af_runs.specs.Blocks.{Marks, is_tame}
use Rattle.af_runs.specs.LegalRuns.{marks_of, session_of, run_from, LegalRounds, IsCutRun}
use Rattle.af_runs.specs.Runs.{new_run, told_at, all_ended}
use Rattle.af_enough.specs.Enough.{all_play_through, enough_rounds, HasEnoughCycles}

-- as many first rounds as are enough, in each of which the fast mixer made its whole turn, and some party hasn't ended after them
pub record StillGoes (script : ScriptData) (files : List (List Frame)) (marks : Marks) : Type 0 where
  pub rounds : List RoundSeen
  pub count : length rounds ≡ enough_rounds script
  pub legal : LegalRounds false (session_of script files) marks (new_run (session_of script files)) rounds
  pub going : all_ended (session_of script files) (run_from (session_of script files) (new_run (session_of script files)) rounds) ≡ false

-- A cut run of a script with enough cycles still goes after so many rounds
abbrev pub CutRunsAreLong : ScriptData → List (List Frame) → JournalData → Type 0
CutRunsAreLong script files j = HasEnoughCycles script → IsCutRun script files j → StillGoes script files (marks_of j.rounds)

-- In rounds of an accepted script with enough cycles, each legal after those before it by marks that call each command block lawful, whatever they call the streams: once the log is full all parties have ended
abbrev pub RoundsEndInTime : ScriptData → List (List Frame) → Marks → List RoundSeen → Type 0
RoundsEndInTime script files marks rounds =
    let s = session_of script files in
    IsScript script → HasEnoughCycles script → ((i : ℕ) → i < length script.tracks → marks.commands i ≡ true) → LegalRounds true s marks (new_run s) rounds
    → length (run_from s (new_run s) rounds).entries ≡ script.cycles → all_ended s (run_from s (new_run s) rounds) ≡ true

-- In legal rounds of a script whose tracks play through no client has poked its stream block, nor its command block
abbrev pub NoClientPokes : Bool → ScriptData → List (List Frame) → Marks → List RoundSeen → ℕ → Type 0
NoClientPokes cut script files marks rounds track =
    let s = session_of script files in
    IsScript script → all_play_through script ≡ true → track < length script.tracks → LegalRounds cut s marks (new_run s) rounds
    → (is_tame (told_at (run_from s (new_run s) rounds) track).stream ≡ true) × (is_tame (told_at (run_from s (new_run s) rounds) track).commands ≡ true)
