-- A turn run: a journal in which one party after another makes the turns of a script, and each event sees what all events before it left.
use Rattle.std.specs.Prelude.{◌≡◌, ◌⊎◌, ◌==◌, if◌then◌else◌, ℕ, ◌<◌, true, false, MatchBool, List, [], ◌∷◌, length, fold, None}
use Rattle.af_base.specs.declared.frame.Frame.{Frame}
use Rattle.af_life.specs.Kept.{pipe_size}
use Rattle.af_model.specs.JournalForm.{IsJournal}
use Rattle.af_model.specs.Journals.{EntrySeen, RoundSeen, JournalData}
use Rattle.af_script.specs.Data.{ScriptData}
use Rattle.af_script.specs.declared.op.TurnSpec.{TurnSpec}
use Rattle.af_script.specs.declared.op.TurnSpec.TheVariants as makes
use Rattle.af_runs.specs.Blocks.{Marks, is_tame, IsHistoryAsTold}
use Rattle.af_runs.specs.ClientTurns.{LegalClientTurn}
use Rattle.af_runs.specs.LegalRuns.{marks_of, session_of}
use Rattle.af_runs.specs.Rounds.{IsFastTurn, LegalEntry, LegalTurnIn, loaded, turned}
use Rattle.af_runs.specs.Runs.{Run, new_run, told_at, sides_of, called_in_turn, calls_in, each_track, with_poll, with_mix, found_before, takes_part, met, with_ends, fast_ended}
use Rattle.af_runs.specs.Sessions.{Session, track_count, cycle_frames, setup_of}
use Rattle.af_runs.specs.Told.{IsQueueAsTold, IsReportAsTold, IsPipeAsTold}

-- ## What a round of one party leaves

-- a cycle: the poll, a meeting of all pairs, and the mix
abbrev pub cycle_alone : Session → Run → EntrySeen → Run
cycle_alone s run e = with_mix s e (met s (with_poll s e.entry.state run))

-- the normal mixer's turn, which finds the reports stored so far
abbrev pub turn_alone : Session → Run → RoundSeen → Run
turn_alone s run round = loaded round.turn (turned s (found_before s run []) round.turn run)

-- one client made its calls
abbrev pub calls_alone : ℕ → RoundSeen → Run → Run
calls_alone track round run = each_track (λ number t. if number == track then called_in_turn (calls_in round track) t else t) run

-- the turn of one party
abbrev pub made_alone : Session → Run → TurnSpec → RoundSeen → Run
made_alone s run (makes.Client track) round = calls_alone track round run
made_alone s run makes.Normal round = turn_alone s run round
made_alone s run (makes.Fast cycles) round = fold (cycle_alone s) run round.entries

-- the run after a party's turn and the meetings
abbrev pub met_alone : Session → Run → TurnSpec → RoundSeen → Run
met_alone s run turn round = met s (made_alone s run turn round)

-- ## When a round is legal

-- no client made a call but those of which this holds
abbrev pub OnlyCalls : (ℕ → Type 0) → RoundSeen → Type 0
OnlyCalls May round = (track : ℕ) → May track ⊎ (calls_in round track ≡ [])

-- each entry is legal after those before it
abbrev pub LegalAlone : Session → Marks → Run → List EntrySeen → Type 0
LegalAlone s marks run [] = Unit {0}
LegalAlone s marks run (e ∷ entries) = LegalEntry s marks (met s (with_poll s e.entry.state run)) e × LegalAlone s marks (cycle_alone s run e) entries

-- the turn of the one party is legal, and no other party did anything. A party that has ended does nothing
abbrev pub IsMadeBy : Session → Marks → Run → TurnSpec → RoundSeen → Type 0
IsMadeBy s marks run (makes.Client track) round = OnlyCalls (λ t. t ≡ track) round × (round.turn ≡ None) × (round.entries ≡ []) × LegalClientTurn (sides_of (told_at run track)) (calls_in round track)
IsMadeBy s marks run makes.Normal round = OnlyCalls (λ t. ⊥) round × (round.entries ≡ []) × LegalTurnIn s marks (found_before s run []) run round
IsMadeBy s marks run (makes.Fast cycles) round = OnlyCalls (λ t. ⊥) round × (round.turn ≡ None) × MatchBool (fast_ended run) (round.entries ≡ []) (IsFastTurn cycles false round.entries × LegalAlone s marks run round.entries)

-- Each event sees what all events before it left: of a stream block up to a meeting in which its proxy takes part, and of any block up to its first poke
pub record SeesAllBefore (s : Session) (run : Run) : Type 0 where
  pub streams : (track : ℕ) → track < track_count s → takes_part s run track ≡ true → is_tame (told_at run track).stream ≡ true → IsHistoryAsTold (told_at run track).stream
  pub commands : (track : ℕ) → track < track_count s → is_tame (told_at run track).commands ≡ true → IsHistoryAsTold (told_at run track).commands
  pub queue : IsQueueAsTold (cycle_frames s) run.queue
  pub report : IsReportAsTold run.report
  pub pipe : IsPipeAsTold (pipe_size (setup_of s)) run.pipe

-- the rounds are those of the turns, one by one
abbrev pub AreTurns : Session → Marks → Run → List TurnSpec → List RoundSeen → Type 0
AreTurns s marks run [] rounds = rounds ≡ []
AreTurns s marks run (turn ∷ turns) [] = ⊥
AreTurns s marks run (turn ∷ turns) (round ∷ rounds) =
    IsMadeBy s marks run turn round × SeesAllBefore s (met_alone s run turn round) × AreTurns s marks (with_ends (met_alone s run turn round)) turns rounds

-- the run after turns
abbrev pub run_alone : Session → Run → List TurnSpec → List RoundSeen → Run
run_alone s run [] rounds = run
run_alone s run (turn ∷ turns) [] = run
run_alone s run (turn ∷ turns) (round ∷ rounds) = run_alone s (with_ends (met_alone s run turn round)) turns rounds

-- a turn run of a script and files
pub record IsTurnRun (script : ScriptData) (files : List (List Frame)) (j : JournalData) : Type 0 where
  pub tracks : j.tracks ≡ length script.tracks
  pub form : IsJournal j
  pub turns : AreTurns (session_of script files) (marks_of j.rounds) (new_run (session_of script files)) script.turns j.rounds
