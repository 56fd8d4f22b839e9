-- Turn runs that end with all stream proxies met.
use Rattle.std.specs.Prelude.{◌≡◌, ℕ, ◌<◌, true, List, length}
use Rattle.af_base.specs.declared.frame.Frame.{Frame}
use Rattle.af_model.specs.Journals.{JournalData}
use Rattle.af_script.specs.Data.{ScriptData}
use Rattle.af_runs.specs.LegalRuns.{session_of}
use Rattle.af_runs.specs.Runs.{new_run, takes_part}
use Rattle.af_runs.specs.TurnRuns.{run_alone}

-- the proxy of each stream block takes part in the last meeting
abbrev pub AllMetLast : ScriptData → List (List Frame) → JournalData → Type 0
AllMetLast script files j = let s = session_of script files in (track : ℕ) → track < length script.tracks → takes_part s (run_alone s (new_run s) script.turns j.rounds) track ≡ true
