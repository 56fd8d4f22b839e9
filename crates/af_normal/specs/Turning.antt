-- The steps of a turn on the whole mixer, from its beginning to what it learns.
use Rattle.std.specs.Prelude.{◌≡◌, ℕ, zero, suc, ◌+◌, ◌==◌, Bool, true, false, MatchBool, List, [], ◌∷◌, ◌++◌, length, slice_set, Option, Some, None}
use Rattle.af_base.specs.declared.report.Report.{Report}
use Rattle.af_model.specs.Cycles.{Listed}
use Rattle.af_model.specs.declared.newest.ReaderEvent.TheVariants.{Load}
use Rattle.af_cblk.specs.Parts.{client_saw_front}
use Rattle.af_cblk.specs.Rule.{new_hand}
use Rattle.af_cblk.specs.Sides.{HandSide, Made}
use Rattle.af_server.specs.Order.{ServerState, IsInOrder}
use Rattle.af_server.specs.Slot.{listed}
use Rattle.af_stateq.specs.Answers.{WasAcked}
use Rattle.af_stateq.specs.Mutates.{InDraft, Mutates}
use Rattle.af_link.specs.Names.{IsStreamOf}
use Rattle.af_link.specs.PipeEnds.{in_made, room_of}
use Rattle.af_link.specs.declared.names.StreamNames.{StreamNames}
use Rattle.af_life.specs.Heard.{known_by}
use Rattle.af_life.specs.Kept.{Learnt}
use Rattle.af_normal.specs.Coming.{WelcomesTo}
use Rattle.af_normal.specs.Mixing.{stream_at}
use Rattle.af_normal.specs.State.{NormalState}

-- ## The beginning

-- One turn more is counted, and the last entry's lists are empty again
pub record Begins (x y : NormalState) : Type 0 where
  pub same : y ≡ record x { entry = y.entry; spare_turns = y.spare_turns; spare_takes = y.spare_takes; turns = x.turns + 1 }
  pub tracks : y.entry.tracks.items ≡ []
  pub mixes : y.entry.mixes.items ≡ []

-- the mixer after a look at the acknowledgement
abbrev pub with_mutator : Mutates ServerState StreamNames → NormalState → NormalState
with_mutator m x = record x { mutator = m }

-- a proxy belongs to a track by the names
abbrev pub stream_fits : StreamNames → ℕ → ServerState → Type 0
stream_fits names track s = IsStreamOf names.blocks track s

-- if the last push was seen acknowledged, each proxy that is in hand comes home
pub record SeesAck (ack : Bool) (x y : NormalState) : Type 0 where
  pub mutator : Mutates ServerState StreamNames
  pub acked : WasAcked x.mutator ack mutator
  pub held : InDraft stream_fits mutator
  pub comes : MatchBool ack (WelcomesTo (length x.tracks) (with_mutator mutator x) y) (y ≡ with_mutator mutator x)

-- ## The hands

-- a proxy whose hand was split off
abbrev pub without_hand : ServerState → ServerState
without_hand s = record s { pass = record s.pass { has_hand = false }; shown = None }

-- the hand that was split off a proxy
abbrev pub hand_of : ServerState → HandSide
hand_of s = record { id = s.pass.id; part = new_hand s.pass.part.shape; known = [] }

-- the proxy of the track i is home, of its block and in order, and still has its hand
pub record HasWhole (blocks : List Made) (i : ℕ) (streams : List (Option ServerState)) : Type 0 where
  pub stream : ServerState
  pub is_home : stream_at streams i ≡ Some stream
  pub fits : IsStreamOf blocks i stream
  pub has_hand : stream.pass.has_hand ≡ true

-- the proxy of the track i, which is home, gives its hand
pub record Hands (i : ℕ) (x y : NormalState) : Type 0 where
  pub stream : ServerState
  pub is_home : stream_at x.streams i ≡ Some stream
  pub in_order : IsInOrder (without_hand stream)
  pub leaves : y ≡ record x { streams = slice_set x.streams i (Some (without_hand stream)); hands = x.hands ++ hand_of stream ∷ [] }

-- the proxies of the first tracks, which are home, give their hands
abbrev pub HandsTo : ℕ → NormalState → NormalState → Type 0
HandsTo zero x y = y ≡ x
HandsTo (suc i) x y = (z : NormalState) × HandsTo i x z × Hands i z y

-- in the first turn each stream proxy gives its hand
abbrev pub HasHands : NormalState → NormalState → Type 0
HasHands x y = MatchBool (length x.hands == 0) (HandsTo (length x.tracks) x y) (y ≡ x)

-- ## What a turn learns

-- the list of a stream proxy that is home, and an empty one of one that is elsewhere
abbrev pub listed_at : Option ServerState → Listed
listed_at None = record { shape = record { frames = 0; cells = 0; base = 0; wrap = 0 }; events = [] }
listed_at (Some s) = listed s

-- what is learnt by a report and by the stream proxies that are home
abbrev pub learnt_by : Report → List (Option ServerState) → Learnt
learnt_by report streams = record { report = report; own = λ i. known_by (listed_at (stream_at streams i)) }

-- The report is loaded once, by the number of its store, and then the pipe's room is read
pub record Learns (report : Report) (room : ℕ) (x y : NormalState) : Type 0 where
  pub same : y ≡ record x { reader = y.reader; pipe = y.pipe }
  pub cell : y.reader.cell ≡ x.reader.cell
  pub number : ℕ
  pub loaded : y.reader.events ≡ x.reader.events ++ Load number report ∷ []
  pub pipe : in_made y.pipe ≡ in_made x.pipe
  pub front : y.pipe.pass.part ≡ client_saw_front x.pipe.pass.part y.pipe.pass.part.front
  pub room_is : (room ≡ room_of y.pipe.pass.part) × (y.pipe.room ≡ room)
