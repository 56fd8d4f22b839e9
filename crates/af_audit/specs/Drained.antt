-- A track that is reported drained, as a journal records it: which STOP drained it, when its client sent it, and that its count was reached.
use Rattle.std.specs.Prelude.{◌≡◌, ℕ, ◌+◌, ◌<◌, ◌≤◌, Bool, true, false, if◌then◌else◌, List, [], ◌∷◌, ◌++◌, length, slice_get, Option, Some, None}
use Rattle.af_base.specs.declared.event.ClientCall.{ClientCall}
use Rattle.af_base.specs.declared.event.ClientCall.TheVariants as call
use Rattle.af_base.specs.declared.frame.Frame.{Frame}
use Rattle.af_base.specs.Turn.{Turn}
use Rattle.af_life.specs.declared.command.TheConstants.{STOP}
use Rattle.af_life.specs.Drained.{LifeStep, told, heard_of, cut, life_of, stops, StoppedAt, reports_drained, track_steps}
use Rattle.af_life.specs.Heard.{learnt}
use Rattle.af_life.specs.Kept.{track_in}
use Rattle.af_model.specs.Cycles.{kept}
use Rattle.af_model.specs.Journals.{RoundSeen, JournalData}
use Rattle.af_model.specs.Point.{wrapped}
use Rattle.af_runs.specs.Blocks.{listed}
use Rattle.af_runs.specs.ClientTurns.{Track, after_call}
use Rattle.af_runs.specs.Found.{outside_of}
use Rattle.af_runs.specs.LegalRuns.{is_lawful_track, session_of}
use Rattle.af_runs.specs.Rounds.{found_in, after_round}
use Rattle.af_runs.specs.Runs.{Run, calls_in, new_run, sides_of, told_at}
use Rattle.af_runs.specs.Sessions.{Session, setup_of, track_count}
use Rattle.af_script.specs.Data.{ScriptData}

-- ## The commands that a client sent

-- a command, and how many frames its client had released on the stream block when it sent it
pub record Sent : Type 0 where
  pub code : ℕ
  pub argument : ℕ
  pub released : ℕ

-- the command that a call sent, if it sent one
abbrev pub sent_by : Track → ClientCall → List Sent
sent_by t (call.Sent front code argument) = record { code = code; argument = argument; released = length t.stream.released } ∷ []
sent_by t _ = []

-- the commands that some calls sent, one after the other
abbrev pub sent_by_all : Track → List ClientCall → List Sent
sent_by_all t [] = []
sent_by_all t (answer ∷ calls) = sent_by t answer ++ sent_by_all (after_call t answer) calls

-- the commands that the calls of a round sent
abbrev pub sent_in : Run → RoundSeen → ℕ → List Sent
sent_in run round track = sent_by_all (sides_of (told_at run track)) (calls_in round track)

-- ## The commands that the mixer obeyed

-- the steps of a track's life after a round, with its turn if it has one
abbrev pub round_steps : Session → Run → RoundSeen → Option Turn → ℕ → List LifeStep → List LifeStep
round_steps s run round None track before = before
round_steps s run round (Some e) track before = let c = setup_of s in track_steps c (learnt (outside_of c (found_in s run round e) e)) run.normal e track before

-- how many commands are among these steps
abbrev pub commands_in : List LifeStep → ℕ
commands_in [] = 0
commands_in (told code argument ∷ steps) = commands_in steps + 1
commands_in (heard_of known ∷ steps) = commands_in steps
commands_in (cut ∷ steps) = commands_in steps

-- the number, from 0, of the last command that put the life on its way to a stop
abbrev pub stop_number : List LifeStep → ℕ
stop_number [] = 0
stop_number (told code argument ∷ steps) = if stops code (life_of steps) then commands_in steps else stop_number steps
stop_number (heard_of known ∷ steps) = stop_number steps
stop_number (cut ∷ steps) = stop_number steps

-- ## What a track that is reported drained has reached

-- the turn, if there is one, stores a status that says drained
abbrev pub says_drained : Option Turn → ℕ → Bool
says_drained None track = false
says_drained (Some e) track = reports_drained (track_in e track)

-- the count that the server of a track has consumed
abbrev pub consumed_of : Run → ℕ → ℕ
consumed_of run track = (kept (listed (told_at run track).stream)).consumed

-- The STOP that stopped the life last is the command of the same number that the client sent, and its argument is the word of the number of frames that the client had released when it sent it
pub record IsStopSent (count : ℕ) (steps : List LifeStep) (sent : List Sent) : Type 0 where
  pub released : ℕ
  pub is_sent : slice_get sent (stop_number steps) ≡ Some (record { code = STOP; argument = count; released = released })
  pub is_released : count ≡ wrapped released

-- The last command that put the life on its way to a stop was a STOP at a count that is consumed, and no START has changed the life since. On a track without a poke the client sent that STOP when it had released so many frames
pub record HasReachedStop (lawful : Bool) (consumed : ℕ) (steps : List LifeStep) (sent : List Sent) : Type 0 where
  pub count : ℕ
  pub stopped : StoppedAt count steps
  pub reached : count ≤ consumed
  pub is_sent : lawful ≡ true → IsStopSent count steps sent

-- In each round that reports the track drained `Holds` is true of the run after the round, of the steps of the track's life so far, and of the commands that its client sent so far
abbrev pub WhereDrained : (Run → List LifeStep → List Sent → Type 0) → Session → Run → List LifeStep → List Sent → List RoundSeen → ℕ → Type 0
WhereDrained Holds s run steps sent [] track = Unit {0}
WhereDrained Holds s run steps sent (round ∷ rounds) track =
    let now = round_steps s run round round.turn track steps in
    let all = sent ++ sent_in run round track in
    let after = after_round s run round in
    (says_drained round.turn track ≡ true → Holds after now all) × WhereDrained Holds s after now all rounds track

-- if a track is reported drained, its server has consumed by the round's end the count of the STOP that stopped it last, and no START has changed its life since
abbrev pub EachDrainedTrackReachedItsStop : ScriptData → List (List Frame) → JournalData → Type 0
EachDrainedTrackReachedItsStop script files j = let s = session_of script files in
    (track : ℕ) → track < track_count s → WhereDrained (λ run steps sent. HasReachedStop (is_lawful_track j.rounds track) (consumed_of run track) steps sent) s (new_run s) [] [] j.rounds track
