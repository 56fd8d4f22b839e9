-- In which meetings the two proxies of a block both take part.
use Rattle.std.specs.Prelude.{◌≡◌, ℕ, ◌<◌, Bool, true, false, List}
use Rattle.af_base.specs.declared.frame.Frame.{Frame}
use Rattle.af_model.specs.Journals.{JournalData}
use Rattle.af_runs.specs.LegalRuns.{run_of, session_of}
use Rattle.af_runs.specs.Runs.{Run, takes_part}
use Rattle.af_runs.specs.Sessions.{Session, track_count}
use Rattle.af_script.specs.Data.{ScriptData}

-- the proxies of a track's command block meet always, and those of its stream block if the stream proxy is home or held by the fast mixer
abbrev pub meets_on : Bool → Session → Run → ℕ → Bool
meets_on true s run track = true
meets_on false s run track = takes_part s run track

-- each stream proxy takes part in the last meeting of a journal
abbrev pub EachProxyMeetsLast : ScriptData → List (List Frame) → JournalData → Type 0
EachProxyMeetsLast script files j = let s = session_of script files in (track : ℕ) → track < track_count s → takes_part s (run_of script files j) track ≡ true
