-- What is known of a session and of the run that tells it between two rounds of a script, by the marks of its lawful blocks.
use Rattle.af_render_law.proofs.Common.{EntrySeen, FindsShutUnseen, HaveHistories, IsMadeBy, IsMarkedRun, IsRound, IsSmallRun, List, Marks, PartyState, QueueKnown, ReportMet, RoundNoted, RoundSeen, Run, Session, SessionState, Some, StandsBetween, Turn, TurnSpec, cycle_frames, entries_grown, false, found_before, given_of, length, met_alone, pipe_cells, setup_of, slice_get, with_ends, ℕ}
use Rattle.std.specs.Prelude.{◌≡◌, ◌+◌, ◌≤◌, take, []}
use Rattle.af_script.specs.declared.op.TurnSpec.TheVariants as makes
use Rattle.af_render_law.proofs.AwayKnown.{KnowsAway}
use Rattle.af_render_law.proofs.OwnKept.{ToldBy}
use Rattle.af_render_law.proofs.InvalidKept.{InvalidKept}
use Rattle.af_render_law.proofs.TameRounds.{TameReady}

-- a round as the journal has it, if these entries are left
abbrev pub round_of : RoundNoted → List EntrySeen → RoundSeen
round_of r entries = record { calls = r.calls; turn = r.turn; entries = take r.cycles entries }

-- A turn of one party is made legally after this run, the lists have their histories after it, and the run after the round tells the session y. Of a track that a turn of the normal mixer finds shut as its stream proxy comes home, the client has not seen INVALID
pub record StepIsTold (s : Session) (marks : Marks) (run : Run) (turn : TurnSpec) (round : RoundSeen) (y : SessionState) : Type 0 where
  pub made : IsMadeBy s marks run turn round
  pub histories : HaveHistories s (met_alone s run turn round)
  pub left : ToldBy s (with_ends (met_alone s run turn round)) y
  pub unseen : (e : Turn) → round.turn ≡ Some e → FindsShutUnseen s run (found_before s run [] e) e

-- each client counts the frames that it released
abbrev pub AreCounted : SessionState → Type 0
AreCounted x = (i : ℕ) (p : PartyState) → slice_get x.clients i ≡ Some p → p.stream.released ≡ length p.stream.pass.part.frames

-- the run tells the session, no lawful block was poked so far, blocks and pipe have their sizes, the ends of the queue and the report are known, the hands know what proxies on their way did, INVALID was set for none of them, and the log has room for so many cycles
pub record Holds (s : Session) (marks : Marks) (run : Run) (x : SessionState) (left : ℕ) : Type 0 where
  pub told : ToldBy s run x
  pub stands : StandsBetween x
  pub marked : IsMarkedRun marks run
  pub small : IsSmallRun run
  pub cells : x.normal.pipe.pass.part.shape.cells ≡ pipe_cells (setup_of s)
  pub queue : QueueKnown (cycle_frames s) run x.normal
  pub report : ReportMet run
  pub counted : AreCounted x
  pub aware : KnowsAway x
  pub tame : TameReady s run
  pub invalid : InvalidKept run
  pub room : length run.entries + left ≤ s.script.cycles

-- a turn of the normal mixer is a step, and the queue is known again after it
abbrev pub NormalTurnIsAStep : Session → Marks → Type 0
NormalTurnIsAStep s marks = (run : Run) (x : SessionState) (r : RoundNoted) (bytes : List ℕ) (y : SessionState) (entries : List EntrySeen) (left : ℕ) → Holds s marks run x left → x.normal.ended ≡ false → IsRound (given_of s) makes.Normal x r bytes y
    → StepIsTold s marks run makes.Normal (round_of r entries) y × QueueKnown (cycle_frames s) (with_ends (met_alone s run makes.Normal (round_of r entries))) y.normal

-- a turn of the fast mixer is a step, and the queue stands again after it; the entries of the round are those by which the log grew
abbrev pub FastTurnIsAStep : Session → Marks → Type 0
FastTurnIsAStep s marks = (run : Run) (count : ℕ) (x : SessionState) (r : RoundNoted) (bytes : List ℕ) (y : SessionState) (entries : List EntrySeen) (left : ℕ) → Holds s marks run x left → x.fast.exited ≡ false → 1 ≤ count → length run.entries + count ≤ s.script.cycles
    → (round_of r entries).entries ≡ entries_grown x.fast.log y.fast.log → IsRound (given_of s) (makes.Fast count) x r bytes y → StepIsTold s marks run (makes.Fast count) (round_of r entries) y × StandsBetween y
