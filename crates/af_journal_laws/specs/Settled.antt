-- A START that its client saw settled, as far as a journal goes.
use Rattle.std.specs.Prelude.{◌≡◌, ℕ, ◌<◌, true, List, [], ◌∷◌, ◌++◌, length}
use Rattle.af_base.specs.declared.frame.Frame.{Frame}
use Rattle.af_model.specs.Journals.{RoundSeen, JournalData}
use Rattle.af_runs.specs.Blocks.{HasBlockHistory}
use Rattle.af_runs.specs.LegalRuns.{is_lawful_track, run_from, session_of}
use Rattle.af_runs.specs.Rounds.{after_round, all_played}
use Rattle.af_runs.specs.Runs.{Run, calls_in, new_run, sides_of, takes_part, told_at, with_ends}
use Rattle.af_runs.specs.Sessions.{Session, track_count}
use Rattle.af_runs.specs.TurnRuns.{made_alone, met_alone, run_alone}
use Rattle.af_script.specs.Data.{ScriptData}
use Rattle.af_script.specs.declared.op.TurnSpec.{TurnSpec}
use Rattle.af_audit.specs.Settled.{DiscardsAbove, SeesSettled}

-- ## Rounds of all parties

-- if the client of a track without a poke saw a START settled, and its stream proxy met it after that round, only looks that saw a flush count above the START's discard what it released afterwards
abbrev pub EachSettledStartKeeps : ScriptData → List (List Frame) → JournalData → Type 0
EachSettledStartKeeps script files j = let s = session_of script files in
    (now : List RoundSeen) (later : List RoundSeen) → j.rounds ≡ now ++ later
    → (before : List RoundSeen) (round : RoundSeen) (after : List RoundSeen) → now ≡ before ++ round ∷ after → (track : ℕ) → track < track_count s → is_lawful_track now track ≡ true
    → (let run = run_from s (new_run s) before in
    (count : ℕ) → SeesSettled (sides_of (told_at run track)) (calls_in round track) count → takes_part s (all_played s run round) track ≡ true
    → (let b = (told_at (run_from s (new_run s) now) track).stream in
    (h : HasBlockHistory b) → DiscardsAbove b.shape (length (told_at (after_round s run round) track).stream.released) count h.order))

-- ## The turns of one party after another

-- In each round in which the track's client saw a START settled, and after which the track's stream proxy met it, `Holds` holds of the run after the round and of the START's flush count
abbrev pub WhereSettledAlone : (Run → ℕ → Type 0) → Session → Run → List TurnSpec → List RoundSeen → ℕ → Type 0
WhereSettledAlone Holds s run [] rounds track = Unit {0}
WhereSettledAlone Holds s run (turn ∷ turns) [] track = Unit {0}
WhereSettledAlone Holds s run (turn ∷ turns) (round ∷ rounds) track =
    let after = with_ends (met_alone s run turn round) in
    ((count : ℕ) → SeesSettled (sides_of (told_at run track)) (calls_in round track) count → takes_part s (made_alone s run turn round) track ≡ true → Holds after count) × WhereSettledAlone Holds s after turns rounds track

-- in turn runs, if the client of a track without a poke saw a START settled, and its stream proxy met it after that round, only looks that saw a flush count above the START's discard what it released afterwards
abbrev pub EachSettledStartKeepsAlone : ScriptData → List (List Frame) → JournalData → Type 0
EachSettledStartKeepsAlone script files j = let s = session_of script files in
    (now : List RoundSeen) (later : List RoundSeen) → j.rounds ≡ now ++ later → (track : ℕ) → track < track_count s → is_lawful_track now track ≡ true
    → (let b = (told_at (run_alone s (new_run s) script.turns now) track).stream in
    (h : HasBlockHistory b) → WhereSettledAlone (λ after count. DiscardsAbove b.shape (length (told_at after track).stream.released) count h.order) s (new_run s) script.turns now track)
