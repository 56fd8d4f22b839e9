-- A START that its client saw settled: of the frames released in later rounds none is discarded but by a look that saw a flush count above that of the START.
use Rattle.std.specs.Prelude.{◌≡◌, ℕ, ◌+◌, ◌*◌, ◌<◌, ◌≤◌, true, fold, List, [], ◌∷◌, ◌++◌, length, slice_get, Some}
use Rattle.af_base.specs.declared.event.ClientCall.{ClientCall}
use Rattle.af_base.specs.declared.event.ClientCall.TheVariants as call
use Rattle.af_base.specs.declared.event.ServerEvent.{ServerEvent}
use Rattle.af_base.specs.declared.event.ServerEvent.TheVariants as server
use Rattle.af_base.specs.declared.frame.Frame.{Frame}
use Rattle.af_life.specs.declared.command.TheConstants.{START}
use Rattle.af_model.specs.declared.shape.Shape.{Shape}
use Rattle.af_model.specs.Point.{start, drop_end}
use Rattle.af_model.specs.History.{Moment, by_client, by_server, by_hand, server_of, after}
use Rattle.af_model.specs.Journals.{RoundSeen, JournalData}
use Rattle.af_model.specs.ServerCalls.{server_kept, flushes_by}
use Rattle.af_runs.specs.Blocks.{HasBlockHistory}
use Rattle.af_runs.specs.Clients.{settled_in}
use Rattle.af_runs.specs.ClientTurns.{Track, after_call}
use Rattle.af_runs.specs.LegalRuns.{is_lawful_track, session_of, run_from, run_of}
use Rattle.af_runs.specs.Rounds.{all_played, after_round}
use Rattle.af_runs.specs.Runs.{new_run, told_at, sides_of, calls_in, takes_part}
use Rattle.af_runs.specs.Sessions.{track_count}
use Rattle.af_script.specs.Data.{ScriptData}

-- ## What the client saw

-- among these words of commands the command of this number, from 0, is a START with this flush count
pub record IsStart (words : List ℕ) (number count : ℕ) : Type 0 where
  pub code : slice_get words (2 * number) ≡ Some START
  pub argument : slice_get words (2 * number + 1) ≡ Some count

-- one of these calls of a client is a status that counts a START with this flush count among the commands settled
pub record SeesSettled (t : Track) (calls : List ClientCall) (count : ℕ) : Type 0 where
  pub before : List ClientCall
  pub word : ℕ
  pub later : List ClientCall
  pub calls_are : calls ≡ before ++ call.Status word ∷ later
  pub number : ℕ
  pub start : IsStart (fold after_call t before).commands.released number count
  pub settled : number < settled_in word

-- ## What is discarded

-- a drop that discards the frame `from` or a later one follows a look that saw a flush count above `count`
abbrev pub DropsAbove : Shape → (from count : ℕ) → List Moment → ServerEvent → Type 0
DropsAbove k from count order (server.Drop to) =
    let p = after (start k) order in
    (frame : ℕ) → from ≤ frame → p.consumed ≤ k.base + frame → k.base + frame < drop_end p → count < flushes_by k.wrap (server_kept k (server_of order)).flush
DropsAbove k from count order _ = Unit {0}

-- each drop of the order that discards such a frame follows such a look
abbrev pub DiscardsAbove : Shape → (from count : ℕ) → List Moment → Type 0
DiscardsAbove k from count [] = Unit {0}
DiscardsAbove k from count (by_client e ∷ order) = DiscardsAbove k from count order
DiscardsAbove k from count (by_server e ∷ order) = DropsAbove k from count order e × DiscardsAbove k from count order
DiscardsAbove k from count (by_hand e ∷ order) = DiscardsAbove k from count order

-- ## The promise

-- If the client of a track without a poke saw a START settled in a round, and the track's stream proxy took part in the meeting after it, what it released in later rounds is discarded only by looks that saw a flush count above that of the START, in each history of its stream block
abbrev pub SettledMeansKept : ScriptData → List (List Frame) → JournalData → Type 0
SettledMeansKept script files j = let s = session_of script files in
    (before : List RoundSeen) (round : RoundSeen) (later : List RoundSeen) → j.rounds ≡ before ++ round ∷ later → (track : ℕ) → track < track_count s → is_lawful_track j.rounds track ≡ true
    → (let run = run_from s (new_run s) before in
    (count : ℕ) → SeesSettled (sides_of (told_at run track)) (calls_in round track) count → takes_part s (all_played s run round) track ≡ true
    → (let b = (told_at (run_of script files j) track).stream in
    (h : HasBlockHistory b) → DiscardsAbove b.shape (length (told_at (after_round s run round) track).stream.released) count h.order))
