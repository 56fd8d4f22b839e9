-- Blocks that are spared up to a meeting.
use Rattle.std.specs.Prelude.{◌≡◌, ℕ, ◌<◌, Bool, true, List, ◌++◌}
use Rattle.af_base.specs.declared.frame.Frame.{Frame}
use Rattle.af_model.specs.Journals.{RoundSeen, JournalData}
use Rattle.af_runs.specs.LegalRuns.{is_lawful_block, run_from, session_of}
use Rattle.af_runs.specs.Runs.{new_run}
use Rattle.af_runs.specs.Sessions.{track_count}
use Rattle.af_script.specs.Data.{ScriptData}
use Rattle.af_audit.specs.Spared.{IsSpared}
use Rattle.af_journal_laws.specs.Meetings.{meets_on}

-- in the rounds up to each meeting of both proxies of a block, no poke among them, the block is spared
abbrev pub EachMetBlockIsSpared : ScriptData → List (List Frame) → JournalData → Type 0
EachMetBlockIsSpared script files j = let s = session_of script files in
    (now : List RoundSeen) (later : List RoundSeen) → j.rounds ≡ now ++ later → (commands : Bool) (track : ℕ) → track < track_count s → meets_on commands s (run_from s (new_run s) now) track ≡ true → is_lawful_block commands now track ≡ true
    → IsSpared commands s (new_run s) now track
