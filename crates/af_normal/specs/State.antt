-- What contracts see of a normal mixer.
use Rattle.std.specs.Prelude.{ℕ, Bool, List, Option}
use Rattle.af_base.specs.declared.turn.NormalTake.{NormalTake}
use Rattle.af_base.specs.declared.turn.TrackTurn.{TrackTurn}
use Rattle.af_base.specs.declared.turn.TurnEntry.{TurnEntry}
use Rattle.af_base.specs.Roomy.{Roomy}
use Rattle.af_cblk.specs.Sides.{HandSide}
use Rattle.af_server.specs.Order.{ServerState}
use Rattle.af_stateq.specs.Mutates.{Mutates}
use Rattle.af_link.specs.PipeEnds.{InSide}
use Rattle.af_link.specs.Reports.{ReaderSide}
use Rattle.af_link.specs.declared.names.StreamNames.{StreamNames}
use Rattle.af_life.specs.declared.kept.Setting.{Setting}
use Rattle.af_life.specs.declared.kept.TrackKept.{TrackKept}
use Rattle.af_life.specs.Kept.{Setup, NormalKept}

-- the mixer: its sizes, what each track is and what is kept of it, the stream proxies that are home, the command proxies, the hands, which are there from the first turn on, its ends of the queue, the report and the pipe, the last entry and what is left to fill the next one, whether a turn answered that it has ended, and how many turns there were
pub record NormalState : Type 0 where
  pub frames : ℕ
  pub normal : ℕ
  pub settings : List Setting
  pub tracks : List TrackKept
  pub streams : List (Option ServerState)
  pub commands : List ServerState
  pub hands : List HandSide
  pub mutator : Mutates ServerState StreamNames
  pub reader : ReaderSide
  pub pipe : InSide
  pub entry : TurnEntry
  pub spare_turns : Roomy TrackTurn
  pub spare_takes : Roomy NormalTake
  pub ended : Bool
  pub turns : ℕ

-- what a mixer was made of
abbrev pub setup_of : NormalState → Setup
setup_of m = record { frames = m.frames; normal = m.normal; settings = m.settings }

-- what a mixer leaves from turn to turn
abbrev pub kept_of : NormalState → NormalKept
kept_of m = record { tracks = m.tracks; draft = m.mutator.draft; dirty = m.mutator.dirty; pushed = m.mutator.past.number; last = m.mutator.past.last; ended = m.ended }
