-- What has become of each frame by a meeting of its stream block.
use Rattle.std.specs.Prelude.{◌≡◌, ℕ, ◌<◌, false, true, List, ◌++◌}
use Rattle.af_base.specs.declared.frame.Frame.{Frame}
use Rattle.af_model.specs.Journals.{RoundSeen, JournalData}
use Rattle.af_runs.specs.LegalRuns.{is_lawful_block, run_from, session_of}
use Rattle.af_runs.specs.Runs.{new_run, takes_part, told_at}
use Rattle.af_runs.specs.Sessions.{file_words, track_count}
use Rattle.af_runs.specs.TurnRuns.{run_alone}
use Rattle.af_script.specs.Data.{ScriptData}
use Rattle.af_audit.specs.Fates.{HasFates, recorded}
use Rattle.af_journal_laws.specs.Alone.{recorded_alone}

-- by each meeting in which the stream proxy of a track takes part, no poke on its stream block among the rounds before, each frame released has one fate
abbrev pub EachMetFrameHasOneFate : ScriptData → List (List Frame) → JournalData → Type 0
EachMetFrameHasOneFate script files j = let s = session_of script files in
    (now : List RoundSeen) (later : List RoundSeen) → j.rounds ≡ now ++ later → (track : ℕ) → track < track_count s → takes_part s (run_from s (new_run s) now) track ≡ true → is_lawful_block false now track ≡ true
    → HasFates (file_words s track) (recorded s (new_run s) now track) (told_at (run_from s (new_run s) now) track).stream

-- in turn runs, by each meeting in which the stream proxy of a track takes part, no poke on its stream block among the rounds before, each frame released has one fate
abbrev pub EachMetFrameHasOneFateAlone : ScriptData → List (List Frame) → JournalData → Type 0
EachMetFrameHasOneFateAlone script files j = let s = session_of script files in
    (now : List RoundSeen) (later : List RoundSeen) → j.rounds ≡ now ++ later → (track : ℕ) → track < track_count s → takes_part s (run_alone s (new_run s) script.turns now) track ≡ true → is_lawful_block false now track ≡ true
    → HasFates (file_words s track) (recorded_alone s (new_run s) script.turns now track) (told_at (run_alone s (new_run s) script.turns now) track).stream
