-- What holds of the mixers until the Exit is ordered, and how far they are from their ends then.
use Rattle.std.proofs.Common.{◌≡◌, ℕ, Some, ◌≤◌, true, false, List, length, ◌⊎◌}
use Rattle.af_enough_law.proofs.Common.{FastState, commands_exit, state_of, Run, fast_ended, Session, setup_of, cycle_frames, state_at, code_of, ColdIdle, MixWrite, RoundSeen, Marks, run_from, LegalRounds}
use Rattle.af_enough_law.proofs.Acks.{KnowsAcked}
use Rattle.af_enough_law.proofs.Ends.{Rests, ExitSent, AllOver, IsInOrder}
use Rattle.af_enough_law.proofs.FastWords.{KnowsStates, CountsStates}
use Rattle.af_enough_law.proofs.QueueRounds.{QueueStands}
use Rattle.af_enough_law.proofs.PipeFlows.{KnowsPipe, pipe_put, pipe_taken, in_pipe}

-- ## Once the Exit is ordered

-- no state is an Exit
abbrev pub NoExits : List FastState → Type 0
NoExits states = (k : ℕ) (x : FastState) → state_of states k ≡ Some x → commands_exit x ≡ false

-- the mixer rests, and both mixers go on
pub record BothGo (s : Session) (run : Run) : Type 0 where
  pub rests : Rests run.normal
  pub few : length run.normal.tracks ≤ length (setup_of s).settings
  pub stands : QueueStands run
  pub last : state_at (cycle_frames s) run.states (length run.states) ≡ run.normal.last
  pub counts : CountsStates s run
  pub knows : KnowsStates s run
  pub runs : run.normal.ended ≡ false
  pub going : fast_ended run ≡ false

-- the Exit is ordered, none was pushed, and the mixer knows that the last state is acknowledged
pub record Ordered (s : Session) (run : Run) : Type 0 where
  pub both : BothGo s run
  pub draft : commands_exit run.normal.draft ≡ true
  pub none : commands_exit run.normal.last ≡ false
  pub exits : NoExits run.states
  pub acked : KnowsAcked run

-- the Exit is pushed
pub record Sending (s : Session) (run : Run) : Type 0 where
  pub both : BothGo s run
  pub sent : ExitSent run.normal

-- the fast mixer has ended, and the normal mixer knows that the Exit is acknowledged
pub record Closing (run : Run) : Type 0 where
  pub runs : run.normal.ended ≡ false
  pub last : commands_exit run.normal.last ≡ true
  pub acked : KnowsAcked run
  pub fast : fast_ended run ≡ true

-- both mixers have ended
pub record BothEnded (run : Run) : Type 0 where
  pub normal : run.normal.ended ≡ true
  pub fast : fast_ended run ≡ true

-- ## Until the Exit is ordered, and how the end begins

-- the draft orders a cold idle, and nothing lies in the pipe
abbrev pub IsIdle : Run → Type 0
IsIdle run = (code_of run.normal.draft.command ≡ code_of ColdIdle) × (in_pipe run ≡ 0)

-- no Exit is ordered so far: both mixers go on, and what is known of the queue and the pipe is known unless nothing was pushed or put yet
pub record Underway (s : Session) (run : Run) : Type 0 where
  pub order : IsInOrder run.normal
  pub few : length run.normal.tracks ≤ length (setup_of s).settings
  pub stands : QueueStands run
  pub counts : CountsStates s run
  pub last : state_at (cycle_frames s) run.states (length run.states) ≡ run.normal.last
  pub known : (length run.states ≡ 0) ⊎ KnowsStates s run
  pub runs : run.normal.ended ≡ false
  pub going : fast_ended run ≡ false
  pub draft : commands_exit run.normal.draft ≡ false
  pub none : commands_exit run.normal.last ≡ false
  pub exits : NoExits run.states
  pub within : pipe_taken run ≤ pipe_put run
  pub pipe : (pipe_put run ≡ 0) ⊎ KnowsPipe run
  pub command : (code_of run.normal.draft.command ≡ code_of MixWrite) ⊎ IsIdle run

-- no Exit is ordered so far, and every life has ended
pub record EndBegins (s : Session) (run : Run) : Type 0 where
  pub under : Underway s run
  pub over : AllOver run.normal.tracks

-- any so many legal rounds and more leave both mixers ended
abbrev pub EndWithin : Session → Marks → ℕ → Run → Type 0
EndWithin s marks n run = (rounds : List RoundSeen) → LegalRounds false s marks run rounds → n ≤ length rounds → BothEnded (run_from s run rounds)
