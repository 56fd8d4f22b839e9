-- A round of all parties of which a run tells what came before.
use Rattle.std.specs.Prelude.{◌≡◌, ℕ, ◌<◌, List, length, drop, slice_get, Some}
use Rattle.af_judge.specs.StatesKept.{Carried}
use Rattle.af_link.specs.declared.links.Links.{Links}
use Rattle.af_model.specs.Journals.{RoundSeen, entries_seen}
use Rattle.af_party.specs.Parties.{PartyState}
use Rattle.af_runs.specs.Runs.{Run, calls_in, pipe_cells}
use Rattle.af_runs.specs.Sessions.{Session, cycle_frames, setup_of}
use Rattle.af_session.specs.Met.{Met}
use Rattle.af_session.specs.Together.{AreTogether, SessionState}
use Rattle.af_side_by_side.specs.SideBySide.{AllPlayed, turn_noted}
use Rattle.af_told_law.specs.Between.{StandsBetween}
use Rattle.af_told_law.specs.Deeds.{Deeds}
use Rattle.af_told_law.specs.MixLaws.{TookCounted}
use Rattle.af_told_law.specs.QueueTurned.{QueueKnown, ReportMet}
use Rattle.af_told_law.specs.Sizes.{IsSmallRun}
use Rattle.af_told_law.specs.Tells.{Tells, given_of}
use Rattle.af_play_law.specs.Loads.{CountUp}

-- a round as the journal has it: the calls that the clients made by u, the turn, and the entries by which the log grew
pub record RoundNotes (x u : SessionState) (round : RoundSeen) : Type 0 where
  pub calls : (i : ℕ) (q : PartyState) → slice_get u.clients i ≡ Some q → calls_in round i ≡ q.calls.items
  pub turn : round.turn ≡ turn_noted x.normal u.normal
  pub entries : round.entries ≡ entries_seen (drop (length x.fast.log.frames) u.fast.log.frames) (drop (length x.fast.log.entries) u.fast.log.entries)

-- there are as many reports as entries, and each has its number
pub record ReportsCount (run : Run) : Type 0 where
  pub many : length run.reports ≡ length run.entries
  pub cycles : CountUp 0 run.reports

-- what holds between two rounds: the run tells the session, the ends of the queue and of the report met, what the run tells is counted and small, and what the draft and the last state carry is away
pub record PlayStands (s : Session) (run : Run) (d : Deeds) (x : SessionState) : Type 0 where
  pub told : Tells s run d x
  pub stands : StandsBetween x
  pub known : QueueKnown (cycle_frames s) run x.normal
  pub report : ReportMet run
  pub took : TookCounted x.fast
  pub cells : x.normal.pipe.pass.part.shape.cells ≡ pipe_cells (setup_of s)
  pub small : IsSmallRun run
  pub counts : ReportsCount run
  pub carried : Carried run.normal

-- the log had room, all parties made their turns, from x to u, and met, by which they were z, and the journal notes the round
pub record RoundPlayed (links : Links) (s : Session) (x u z : SessionState) (bytes : List ℕ) (round : RoundSeen) : Type 0 where
  pub plays : AllPlayed links (given_of s) x u bytes
  pub meets : Met u z
  pub before : AreTogether links x
  pub turned : AreTogether links u
  pub met : AreTogether links z
  pub room : length x.fast.log.entries < x.fast.cycles
  pub notes : RoundNotes x u round
