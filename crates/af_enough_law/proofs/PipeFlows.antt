-- What is put into the pipe by a round, what is taken, and the room that is seen.
use Rattle.std.proofs.Common.{◌≡◌, ℕ, ◌+◌, ◌-◌, ◌*◌, ◌≤◌, min, if◌then◌else◌, Option, Some, None, length, take}
use Rattle.af_base.specs.declared.event.ClientEvent.TheVariants as client
use Rattle.af_base.specs.declared.event.ServerEvent.TheVariants as server
use Rattle.af_enough_law.proofs.Common.{Turn, pipe_size, put_by, RoundSeen, ones, twos, after_round, Run, Session, setup_of, cycle_frames}
use Rattle.af_enough_law.specs.Seen.{Stands, frames_put, frames_taken}
use Rattle.af_enough_law.proofs.FastWords.{MixesAll}

-- how many frames were put so far, and how many taken
abbrev pub pipe_put : Run → ℕ
pipe_put run = frames_put (ones run.pipe.told)

abbrev pub pipe_taken : Run → ℕ
pipe_taken run = frames_taken (twos run.pipe.told)

-- how many frames were put and not taken
abbrev pub in_pipe : Run → ℕ
in_pipe run = pipe_put run - pipe_taken run

-- Each end knows what the other did: at a meeting it learnt of so many of its events, which were all that put or took
pub record KnowsPipe (run : Run) : Type 0 where
  pub puts : ℕ
  pub puts_learnt : Stands (server.Learn puts) (twos run.pipe.told)
  pub puts_within : puts ≤ length (ones run.pipe.told)
  pub puts_all : frames_put (take puts (ones run.pipe.told)) ≡ pipe_put run
  pub takes : ℕ
  pub takes_learnt : Stands (client.Learn takes) (ones run.pipe.told)
  pub takes_within : takes ≤ length (twos run.pipe.told)
  pub takes_all : frames_taken (take takes (twos run.pipe.told)) ≡ pipe_taken run
  pub words : length run.pipe.put ≡ pipe_put run

-- how many frames a turn puts: a buffer, if it mixes some track
abbrev pub put_in : Session → Option Turn → ℕ
put_in s None = 0
put_in s (Some e) = if e.ended then 0 else length (put_by (setup_of s) e.mixes)

-- what a round does to the pipe: it puts what the turn mixed, and if all its entries are Mixed, it takes at least all that was in the pipe, or 16 times the frames of a cycle
pub record PipeFlowed (s : Session) (run : Run) (round : RoundSeen) : Type 0 where
  pub put : pipe_put (after_round s run round) ≡ pipe_put run + put_in s round.turn
  pub within : pipe_taken (after_round s run round) ≤ pipe_put (after_round s run round)
  pub grows : pipe_taken run ≤ pipe_taken (after_round s run round)
  pub taken : MixesAll round → min (in_pipe run) (16 * cycle_frames s) + pipe_taken run ≤ pipe_taken (after_round s run round)

-- the room that a turn sees: at least that by what was in the pipe after the round before
pub record RoomSeen (s : Session) (run : Run) (e : Turn) : Type 0 where
  pub least : pipe_size (setup_of s) ≤ e.room + in_pipe run
  pub most : e.room ≤ pipe_size (setup_of s)
