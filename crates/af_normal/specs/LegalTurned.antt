-- What a turn of the mixer promises: it is legal by what it saw, it leaves what the definition says, and the list of each of its parties grows by what its entry says.
use Rattle.std.specs.Prelude.{◌≡◌, ◌≢◌, ℕ, ◌⊎◌, ◌&&◌, Bool, true, false, if◌then◌else◌, is_some, List, [], ◌∷◌, ◌++◌, length, map, slice_get, Option, Some, None}
use Rattle.af_base.specs.declared.event.ServerEvent.{ServerEvent}
use Rattle.af_base.specs.declared.state.Push.{Push}
use Rattle.af_base.specs.declared.state.Push.TheVariants.{Pushed, Clean, Busy}
use Rattle.af_base.specs.Sample.{packed_word}
use Rattle.af_base.specs.Turn.{Turn, turn_of}
use Rattle.af_base.specs.declared.event.ClientEvent.TheVariants as client
use Rattle.af_base.specs.declared.event.HandEvent.{HandEvent}
use Rattle.af_cblk.specs.Rule.{StartsWith}
use Rattle.af_cblk.specs.Sides.{HandSide}
use Rattle.af_model.specs.Cycles.{Listed}
use Rattle.af_model.specs.PipeHistory.{room_by, releases_of}
use Rattle.af_model.specs.declared.newest.ReaderEvent.TheVariants.{Load}
use Rattle.af_server.specs.Order.{ServerState}
use Rattle.af_server.specs.Slot.{listed}
use Rattle.af_stateq.specs.Mutates.{at}
use Rattle.af_life.specs.declared.kept.TrackKept.{TrackKept}
use Rattle.af_life.specs.Kept.{Setup, pipe_size, NormalKept, Learnt, Outside, track_at, track_in, slot_number, is_home, is_returning}
use Rattle.af_life.specs.Edits.{after_ack, must_enter}
use Rattle.af_life.specs.Heard.{learnt}
use Rattle.af_life.specs.Looks.{words_taken}
use Rattle.af_life.specs.Plays.{put_by}
use Rattle.af_life.specs.Turn.{after_tracks, turn_after, LegalTurn}
use Rattle.af_life.specs.TurnEvents.{tracks_at, going, invalid, command_list, hand_events_of, stream_list, mutator_list}
use Rattle.af_normal.specs.Mixing.{stream_at}
use Rattle.af_normal.specs.Serving.{Adds}
use Rattle.af_normal.specs.State.{NormalState, setup_of, kept_of}
use Rattle.af_normal.specs.Turning.{listed_at}

-- the events of the hand of the track i, none if it is not split off yet
abbrev pub hand_events : List HandSide → ℕ → List HandEvent
hand_events hands i = elim (slice_get hands i) as (λ h. List HandEvent) [ None ↦ [] | Some h ↦ h.part.events ]

-- the items that wait in their slots after a push that answered so, or went with it
abbrev pub in_queue : Push → (sent pending : List (Option ServerState)) → List (Option ServerState)
in_queue (Pushed number) sent pending = sent
in_queue Clean sent pending = pending
in_queue (Busy seen expected) sent pending = pending

-- the item of a slot that came by a look, or was in hand before
abbrev pub in_hand : (came before : List (Option ServerState)) → ℕ → Option ServerState
in_hand came before k = if is_some (at came k) then at came k else at before k

-- the stream proxy of the track i that is home in the turn: that of a returning track comes by a seen acknowledgement, if it is in hand
abbrev pub home_stream : Bool → NormalKept → List (Option ServerState) → NormalState → ℕ → Option ServerState
home_stream ack m back x i = let s = track_at m.tracks i in
    if ack && is_returning s.holder then in_hand back x.mutator.returned (slot_number s) else stream_at x.streams i

-- the tracks once all were served
abbrev pub served_tracks : Setup → Learnt → NormalKept → Turn → List TrackKept
served_tracks c k m e = (after_tracks c k e (after_ack e.ack m)).tracks

-- a proxy goes on from a list with these events
abbrev pub GoesOnFrom : Listed → List ServerEvent → ServerState → Type 0
GoesOnFrom s events t = (t.pass.part.events ≡ s.events ++ events) × (t.pass.part.shape ≡ s.shape)

-- The list of each party after the turn e, from what m kept and by what the turn saw: the command proxies, which keep theirs, and the hands of its tracks, which recall what they knew of a stream proxy's list before INVALID is set there, the mutator with the items that came by its looks and went by its push, the stream proxies, from the list that each had when it was home, both those that are home afterwards and those that were lent, the reader of the report, and the writing end of the pipe
pub record Grows (c : Setup) (m : NormalKept) (o : Outside) (e : Turn) (x y : NormalState) : Type 0 where
  pub commands : (i : ℕ) (s : ServerState) → slice_get x.commands i ≡ Some s
      → (t : ServerState) × (slice_get y.commands i ≡ Some t) × Adds s (command_list c o e (tracks_at c (learnt o) m e i) i) (words_taken (track_in e i).looks) t
  pub whole : (i : ℕ) (s t : ServerState) → slice_get x.commands i ≡ Some s → slice_get y.commands i ≡ Some t → t.pass.has_hand ≡ s.pass.has_hand
  pub hands : (i : ℕ) → hand_events y.hands i ≡ hand_events x.hands i ++ hand_events_of e i
  pub recalled : e.ended ≡ false → (i : ℕ) (h : HandSide) → slice_get x.hands i ≡ Some h → is_home (track_at (tracks_at c (learnt o) m e i) i).holder ≡ true
      → invalid (learnt o) (track_in e i) (tracks_at c (learnt o) m e i) i ≢ [] → StartsWith (o.streams i).events h.known
  pub back : List (Option ServerState)
  pub again : List (Option ServerState)
  pub sent : List (Option ServerState)
  pub mutator : y.mutator.past.events ≡ x.mutator.past.events ++ mutator_list c (learnt o) m e back again sent
  pub home : e.ended ≡ false → (i : ℕ) → o.streams i ≡ listed_at (home_stream e.ack m back x i)
  pub streams : (i : ℕ) (t : ServerState) → stream_at y.streams i ≡ Some t → GoesOnFrom (o.streams i) (stream_list c o e (tracks_at c (learnt o) m e i) i) t
  pub lent : e.ended ≡ false → (i : ℕ) → must_enter (track_at (served_tracks c (learnt o) m e) i) ≡ true
      → (t : ServerState) × (at (in_queue e.push sent y.mutator.pending) (slot_number (track_at (served_tracks c (learnt o) m e) i)) ≡ Some t) × GoesOnFrom (o.streams i) (stream_list c o e (tracks_at c (learnt o) m e i) i) t
  pub reader : (n : ℕ) × (y.reader.events ≡ x.reader.events ++ going e (Load n o.report ∷ []))
  pub pipe : (front : ℕ) × (y.pipe.pass.part.events ≡ x.pipe.pass.part.events ++ going e (client.SawFront front ∷ releases_of x.pipe.pass.part.shape.cells (length x.pipe.pass.part.frames) (length (put_by c e.mixes))))
      × ((e.room ≡ room_by (pipe_size c) (length x.pipe.pass.part.frames) front) ⊎ (e.ended ≡ true)) × (y.pipe.pass.part.frames ≡ x.pipe.pass.part.frames ++ map packed_word (put_by c e.mixes))

-- By what the turn saw, the lists of the command proxies among it, the turn that the entry records is legal, leaves what the definition says, and each list grows by it. What the mixer was made of stays
pub record IsLegal (o : Outside) (x y : NormalState) : Type 0 where
  pub commands : (i : ℕ) (s : ServerState) → slice_get x.commands i ≡ Some s → o.commands i ≡ listed s
  pub setup : setup_of y ≡ setup_of x
  pub legal : LegalTurn (setup_of x) o (kept_of x) (turn_of y.entry)
  pub leaves : kept_of y ≡ turn_after (setup_of x) (learnt o) (kept_of x) (turn_of y.entry)
  pub lists : Grows (setup_of x) (kept_of x) o (turn_of y.entry) x y
