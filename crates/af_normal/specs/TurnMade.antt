-- A whole turn as its steps, one after the other.
use Rattle.std.specs.Prelude.{◌≡◌, ℕ, ◌-◌, ◌<◌, ◌^◌, ◌==◌, ◌&&◌, not, nat_le, if◌then◌else◌, Bool, true, false, MatchBool, length, map, Some}
use Rattle.af_base.specs.Log.{slots}
use Rattle.af_base.specs.declared.report.Report.{Report}
use Rattle.af_base.specs.declared.state.Push.{Push}
use Rattle.af_base.specs.Turn.{Turn, ended_turn, take_seen, track_seen, turn_of}
use Rattle.af_stateq.specs.Answers.{WasAcked}
use Rattle.af_stateq.specs.Mutates.{Mutates}
use Rattle.af_server.specs.Order.{ServerState}
use Rattle.af_link.specs.PipeEnds.{HasPut, in_made}
use Rattle.af_link.specs.declared.links.Links.{Links}
use Rattle.af_link.specs.declared.names.StreamNames.{StreamNames}
use Rattle.af_life.specs.Edits.{commands_exit}
use Rattle.af_life.specs.Kept.{asked, slot_number, track_at}
use Rattle.af_life.specs.Plays.{put_by}
use Rattle.af_link.specs.Names.{IsStreamOf}
use Rattle.af_normal.specs.AllMixed.{HasTakes}
use Rattle.af_normal.specs.Mixing.{Mixing, MixesTo, stream_at}
use Rattle.af_normal.specs.Mutating.{EditsAll, Pushes}
use Rattle.af_normal.specs.Order.{HasTurns}
use Rattle.af_normal.specs.Ready.{AreOwn, serving_of}
use Rattle.af_normal.specs.Serving.{ServesTo}
use Rattle.af_normal.specs.State.{NormalState, setup_of}
use Rattle.af_normal.specs.declared.turn.Turn.{Turn as Answer}
use Rattle.af_normal.specs.declared.turn.Turn.TheVariants.{Turned, Ended, Spent}
use Rattle.af_normal.specs.Turning.{Begins, SeesAck, HasHands, Learns, learnt_by}

-- The track i may be served: its proxies and its hand are of its blocks, its slot is one, and it has settled few commands
pub record IsServable (links : Links) (i : ℕ) (x : NormalState) : Type 0 where
  pub slot : slot_number (track_at x.tracks i) < slots
  pub few : (track_at x.tracks i).settled < 2 ^ 62 - 256
  pub own : AreOwn links x.streams x.commands x.hands i

-- the tracks are served, by what was learnt, each by what those before it left
pub record ServesAll (report : Report) (x y : NormalState) : Type 0 where
  pub tracks : ServesTo (setup_of x) (learnt_by report x.streams) (length x.tracks) (serving_of x) (serving_of y)
  pub same : y ≡ record x { tracks = y.tracks; streams = y.streams; commands = y.commands; hands = y.hands; entry = y.entry; spare_turns = y.spare_turns }
  pub mixes : y.entry.mixes ≡ x.entry.mixes

-- the parts of a mixer that mix its tracks
abbrev pub mixing_of : NormalState → Mixing
mixing_of x = record { tracks = x.tracks; streams = x.streams; takes = map take_seen x.entry.mixes.items }

-- If the pipe had room for a buffer, the tracks without a slot are mixed, and what was taken is put into the pipe
pub record PlaysAll (room : ℕ) (x y : NormalState) : Type 0 where
  pub mixes : MatchBool (nat_le (asked (setup_of x)) room) (MixesTo (asked (setup_of x)) (length x.tracks) (mixing_of x) (mixing_of y)) (mixing_of y ≡ mixing_of x)
  pub made : in_made y.pipe ≡ in_made x.pipe
  pub put : HasPut x.pipe.pass.part (put_by (setup_of x) (mixing_of y).takes) y.pipe.pass.part
  pub same : y ≡ record x { tracks = y.tracks; streams = y.streams; pipe = y.pipe; entry = y.entry; spare_takes = y.spare_takes }
  pub tracks : y.entry.tracks ≡ x.entry.tracks

-- the entry that records a turn
abbrev pub told_turn : ℕ → Bool → Report → Push → NormalState → Turn
told_turn room ack report push x = record {
  ended = false;
  room = room;
  ack = ack;
  cycle = report.cycle;
  tracks = map track_seen x.entry.tracks.items;
  push = push;
  mixes = map take_seen x.entry.mixes.items;
}

-- What follows once what came home is home, up to the entry, by the report and the room that it saw, and its push
pub record GoesOnFrom (ack : Bool) (report : Report) (room : ℕ) (push : Push) (home y : NormalState) : Type 0 where
  pub learnt : NormalState
  pub learns : Learns report room home learnt
  pub served : NormalState
  pub serves : ServesAll report learnt served
  pub edited : NormalState
  pub edits : EditsAll room served edited
  pub pushed : NormalState
  pub pushes : Pushes push edited pushed
  pub played : NormalState
  pub plays : PlaysAll room pushed played
  pub tells : turn_of y.entry ≡ told_turn room ack report push played
  pub leaves : y ≡ record played { entry = y.entry }

-- What follows once what came home is home, with what stays in order: the proxies and the hands are of their blocks, and the entry and the spare lists have their room
pub record WentOn (links : Links) (ack : Bool) (report : Report) (room : ℕ) (push : Push) (home y : NormalState) : Type 0 where
  pub goes : GoesOnFrom ack report room push home y
  pub own : (i : ℕ) → i < length goes.served.tracks → AreOwn links goes.served.streams goes.served.commands goes.served.hands i
  pub streams : (i : ℕ) (s : ServerState) → stream_at goes.played.streams i ≡ Some s → IsStreamOf links.streams.now i s
  pub turns : HasTurns (length y.tracks) y.entry.tracks y.spare_turns
  pub takes : HasTakes (asked (setup_of y)) (length y.tracks) y.entry.mixes y.spare_takes

-- a turn that goes on, from its look at the acknowledgement
pub record GoesOnBy (ack : Bool) (report : Report) (room : ℕ) (push : Push) (x y : NormalState) : Type 0 where
  pub home : NormalState
  pub sees : SeesAck ack x home
  pub rest : GoesOnFrom ack report room push home y

-- The mixer had not ended, and sees no Exit acknowledged. By what it then saw it went on, and pushed
pub record TurnsBy (push : Push) (x y : NormalState) : Type 0 where
  pub ack : Bool
  pub report : Report
  pub room : ℕ
  pub lives : (x.ended ≡ false) × ((commands_exit x.mutator.past.last && ack) ≡ false)
  pub goes_on : GoesOnBy ack report room push x y

-- The mixer had ended, or sees an Exit acknowledged
pub record Stops (x y : NormalState) : Type 0 where
  pub mutator : Mutates ServerState StreamNames
  pub looks : MatchBool x.ended (mutator ≡ x.mutator) (WasAcked x.mutator true mutator × (commands_exit x.mutator.past.last ≡ true))
  pub tells : turn_of y.entry ≡ ended_turn
  pub leaves : y ≡ record x { mutator = mutator; ended = true; entry = y.entry }

-- the entry records some take
abbrev pub has_mixed : NormalState → Bool
has_mixed x = not (length x.entry.mixes.items == 0)

-- what a turn does by its answer, once it began; one that began is not refused
abbrev pub Does : Answer → NormalState → NormalState → Type 0
Does Ended x y = Stops x y
Does (Turned mixed pushed) x y = TurnsBy pushed x y × (mixed ≡ has_mixed y)
Does Spent x y = ⊥

-- A turn, by what it answers: it begins, in the first turn the hands are split off, and then it does the rest
pub record TurnMade (answer : Answer) (x y : NormalState) : Type 0 where
  pub begun : NormalState
  pub begins : Begins x begun
  pub handed : NormalState
  pub hands : HasHands begun handed
  pub does : Does answer handed y

-- what a turn answers by its entry
abbrev pub answer_of : Turn → Answer
answer_of e = if e.ended then Ended else Turned (not (length e.mixes == 0)) e.push
