-- Tracks that are reported drained, as far as a journal goes.
use Rattle.std.specs.Prelude.{◌≡◌, ℕ, ◌<◌, true, List, [], ◌∷◌, ◌++◌, Option, Some, None}
use Rattle.af_base.specs.declared.frame.Frame.{Frame}
use Rattle.af_base.specs.Turn.{Turn}
use Rattle.af_life.specs.Drained.{LifeStep, track_steps}
use Rattle.af_life.specs.Heard.{learnt}
use Rattle.af_model.specs.Journals.{RoundSeen, JournalData}
use Rattle.af_runs.specs.Found.{outside_of}
use Rattle.af_runs.specs.LegalRuns.{is_lawful_track, session_of}
use Rattle.af_runs.specs.Runs.{Run, found_before, new_run, with_ends}
use Rattle.af_runs.specs.Sessions.{Session, setup_of, track_count}
use Rattle.af_runs.specs.TurnRuns.{met_alone}
use Rattle.af_script.specs.Data.{ScriptData}
use Rattle.af_script.specs.declared.op.TurnSpec.{TurnSpec}
use Rattle.af_audit.specs.Drained.{HasReachedStop, Sent, WhereDrained, consumed_of, says_drained, sent_in}

-- ## Rounds of all parties

-- in the rounds so far each track that is reported drained has reached the STOP that stopped it last, with no START since; its client sent that STOP, if none of these rounds has a poke on it
abbrev pub EachDrainedTrackHasStopped : ScriptData → List (List Frame) → JournalData → Type 0
EachDrainedTrackHasStopped script files j = let s = session_of script files in
    (now : List RoundSeen) (later : List RoundSeen) → j.rounds ≡ now ++ later → (track : ℕ) → track < track_count s
    → WhereDrained (λ run steps sent. HasReachedStop (is_lawful_track now track) (consumed_of run track) steps sent) s (new_run s) [] [] now track

-- ## The turns of one party after another

-- the steps of a track's life after a turn of the normal mixer, if one was made, the newest first
abbrev pub steps_alone : Session → Run → Option Turn → ℕ → List LifeStep → List LifeStep
steps_alone s run None track before = before
steps_alone s run (Some e) track before = let c = setup_of s in track_steps c (learnt (outside_of c (found_before s run [] e) e)) run.normal e track before

-- In each round that reports the track drained `Holds` holds of the run after the round, of the steps of the track's life so far, and of the commands that its client sent so far
abbrev pub WhereDrainedAlone : (Run → List LifeStep → List Sent → Type 0) → Session → Run → List TurnSpec → List LifeStep → List Sent → List RoundSeen → ℕ → Type 0
WhereDrainedAlone Holds s run [] steps sent rounds track = Unit {0}
WhereDrainedAlone Holds s run (turn ∷ turns) steps sent [] track = Unit {0}
WhereDrainedAlone Holds s run (turn ∷ turns) steps sent (round ∷ rounds) track =
    let now = steps_alone s run round.turn track steps in
    let all = sent ++ sent_in run round track in
    let after = with_ends (met_alone s run turn round) in
    (says_drained round.turn track ≡ true → Holds after now all) × WhereDrainedAlone Holds s after turns now all rounds track

-- in turn runs, in the rounds so far, each track that is reported drained has reached the STOP that stopped it last, with no START since; its client sent that STOP, if none of these rounds has a poke on it
abbrev pub EachDrainedTrackHasStoppedAlone : ScriptData → List (List Frame) → JournalData → Type 0
EachDrainedTrackHasStoppedAlone script files j = let s = session_of script files in
    (now : List RoundSeen) (later : List RoundSeen) → j.rounds ≡ now ++ later → (track : ℕ) → track < track_count s
    → WhereDrainedAlone (λ run steps sent. HasReachedStop (is_lawful_track now track) (consumed_of run track) steps sent) s (new_run s) script.turns [] [] now track
