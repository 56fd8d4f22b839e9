-- A turn of the normal mixer as a plain value: its lists are lists, whatever room the program's have. Contracts compare turns by this.
use Rattle.std.specs.Prelude.{ℕ, Bool, true, List, [], map, Option}
use Rattle.af_base.specs.declared.frame.Frame.{Frame}
use Rattle.af_base.specs.declared.log.SlotEntry.{SlotEntry}
use Rattle.af_base.specs.declared.state.Push.{Push}
use Rattle.af_base.specs.declared.state.Push.TheVariants.{Clean}
use Rattle.af_base.specs.declared.turn.CommandLook.{CommandLook}
use Rattle.af_base.specs.declared.turn.NormalTake.{NormalTake}
use Rattle.af_base.specs.declared.turn.TrackTurn.{TrackTurn}
use Rattle.af_base.specs.declared.turn.TurnEntry.{TurnEntry}

-- what a turn saw and did of one track
pub record TrackSeen : Type 0 where
  pub looks : List CommandLook
  pub status : Option ℕ
  pub disabled : Bool

-- what a turn took of one track for its buffer
pub record TakeSeen : Type 0 where
  pub track : ℕ
  pub slot : SlotEntry
  pub frames : List Frame

-- a turn
pub record Turn : Type 0 where
  pub ended : Bool
  pub room : ℕ
  pub ack : Bool
  pub cycle : ℕ
  pub tracks : List TrackSeen
  pub push : Push
  pub mixes : List TakeSeen

abbrev pub track_seen : TrackTurn → TrackSeen
track_seen t = record { looks = t.looks.items; status = t.status; disabled = t.disabled }

abbrev pub take_seen : NormalTake → TakeSeen
take_seen t = record { track = t.track; slot = t.slot; frames = t.frames.items }

-- the turn that an entry of the program tells
abbrev pub turn_of : TurnEntry → Turn
turn_of e = record {
  ended = e.ended;
  room = e.room;
  ack = e.ack;
  cycle = e.cycle;
  tracks = map track_seen e.tracks.items;
  push = e.push;
  mixes = map take_seen e.mixes.items;
}

-- the turn of a mixer that has ended
abbrev pub ended_turn : Turn
ended_turn = record { ended = true; room = 0; ack = true; cycle = 0; tracks = []; push = Clean; mixes = [] }
