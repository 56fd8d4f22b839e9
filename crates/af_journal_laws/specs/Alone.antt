-- What turn runs, in which one party after another makes a turn, say of a track's frames and blocks.
use Rattle.std.specs.Prelude.{◌≡◌, ℕ, ◌<◌, ◌&&◌, Bool, true, false, List, [], ◌∷◌, ◌++◌}
use Rattle.af_base.specs.declared.frame.Frame.{Frame}
use Rattle.af_model.specs.Journals.{EntrySeen, RoundSeen, JournalData}
use Rattle.af_runs.specs.LegalRuns.{is_lawful_block, session_of}
use Rattle.af_runs.specs.Runs.{Run, calls_in, met, new_run, with_ends, with_poll}
use Rattle.af_runs.specs.Sessions.{Session, track_count}
use Rattle.af_runs.specs.TurnRuns.{cycle_alone, met_alone, run_alone}
use Rattle.af_script.specs.Data.{ScriptData}
use Rattle.af_script.specs.declared.op.TurnSpec.{TurnSpec}
use Rattle.af_audit.specs.Fates.{recorded_by, recorded_by_turn}
use Rattle.af_audit.specs.Spared.{is_spared_by, is_spared_by_turn, none_corrupt_on}
use Rattle.af_journal_laws.specs.Meetings.{meets_on}

-- ## Entries, before each of whose mixes all pairs meet

-- the words of a track's frames that the entries record, one after the other
abbrev pub recorded_by_cycles : Session → Run → List EntrySeen → ℕ → List ℕ
recorded_by_cycles s run [] track = []
recorded_by_cycles s run (e ∷ entries) track = recorded_by s (met s (with_poll s e.entry.state run)) e track ++ recorded_by_cycles s (cycle_alone s run e) entries track

-- the slot that plays the track is Shut in none of the entries
abbrev pub is_spared_by_cycles : Session → Run → List EntrySeen → ℕ → Bool
is_spared_by_cycles s run [] track = true
is_spared_by_cycles s run (e ∷ entries) track = is_spared_by s (met s (with_poll s e.entry.state run)) e track && is_spared_by_cycles s (cycle_alone s run e) entries track

-- ## Rounds

-- the words recorded in some rounds, one after the other
abbrev pub recorded_alone : Session → Run → List TurnSpec → List RoundSeen → ℕ → List ℕ
recorded_alone s run [] rounds track = []
recorded_alone s run (turn ∷ turns) [] track = []
recorded_alone s run (turn ∷ turns) (round ∷ rounds) track =
    (recorded_by_cycles s run round.entries track ++ recorded_by_turn round.turn track) ++ recorded_alone s (with_ends (met_alone s run turn round)) turns rounds track

-- a round spares a block: its client's calls and the turn spare it, and if it is a stream block the entries do
pub record IsSparedInTurn (commands : Bool) (s : Session) (run : Run) (round : RoundSeen) (track : ℕ) : Type 0 where
  pub calls : none_corrupt_on commands (calls_in round track) ≡ true
  pub turn : is_spared_by_turn commands round.turn track ≡ true
  pub entries : commands ≡ false → is_spared_by_cycles s run round.entries track ≡ true

-- each of some rounds spares the block
abbrev pub IsSparedAlone : Bool → Session → Run → List TurnSpec → List RoundSeen → ℕ → Type 0
IsSparedAlone commands s run [] rounds track = Unit {0}
IsSparedAlone commands s run (turn ∷ turns) [] track = Unit {0}
IsSparedAlone commands s run (turn ∷ turns) (round ∷ rounds) track = IsSparedInTurn commands s run round track × IsSparedAlone commands s (with_ends (met_alone s run turn round)) turns rounds track

-- in the rounds up to each meeting of both proxies of a block, no poke among them, the block is spared
abbrev pub EachMetBlockIsSparedAlone : ScriptData → List (List Frame) → JournalData → Type 0
EachMetBlockIsSparedAlone script files j = let s = session_of script files in
    (now : List RoundSeen) (later : List RoundSeen) → j.rounds ≡ now ++ later → (commands : Bool) (track : ℕ) → track < track_count s → meets_on commands s (run_alone s (new_run s) script.turns now) track ≡ true → is_lawful_block commands now track ≡ true
    → IsSparedAlone commands s (new_run s) script.turns now track
