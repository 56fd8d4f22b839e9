-- What the normal mixer does with each track before it edits the draft.
use Rattle.std.specs.Prelude.{◌≡◌, ◌≢◌, ℕ, zero, suc, if◌then◌else◌, MatchBool, Bool, List, [], ◌∷◌, ◌++◌, slice_set, slice_get, Option, Some, None}
use Rattle.af_base.specs.declared.event.HandEvent.{HandEvent}
use Rattle.af_base.specs.declared.event.HandEvent.TheVariants as hand
use Rattle.af_base.specs.declared.event.ServerEvent.{ServerEvent}
use Rattle.af_base.specs.declared.event.ServerEvent.TheVariants as server
use Rattle.af_base.specs.Turn.{TrackSeen}
use Rattle.af_cblk.specs.Rule.{StartsWith}
use Rattle.af_cblk.specs.Sides.{HandSide}
use Rattle.af_server.specs.Order.{ServerState}
use Rattle.af_server.specs.Slot.{listed}
use Rattle.af_life.specs.declared.kept.Heard.{Heard}
use Rattle.af_life.specs.declared.kept.TrackKept.{TrackKept}
use Rattle.af_life.specs.Kept.{Setup, Learnt, track_at, nothing_heard, nothing_seen}
use Rattle.af_life.specs.Heard.{known_by, heard, ready}
use Rattle.af_life.specs.Looks.{all_command_events, LegalLooks, words_taken}
use Rattle.af_life.specs.Obeys.{slot_for}
use Rattle.af_life.specs.Serves.{is_found_shut, served, IsServed}
use Rattle.af_life.specs.TurnEvents.{status_events}
use Rattle.af_normal.specs.Mixing.{stream_at}

-- what a stream proxy knows, if it is home
abbrev pub known_at : Option ServerState → Heard
known_at None = nothing_heard
known_at (Some s) = known_by (listed s)

-- DISABLED, if it was set
abbrev pub disabled_events : Bool → List HandEvent
disabled_events disabled = if disabled then hand.SetFlags 8 ∷ [] else []

-- INVALID, if the track was found shut
abbrev pub shut_events : Bool → List ServerEvent
shut_events shut = if shut then server.SetFlags 4 ∷ [] else []

-- a server goes on with these events, and these words more that it took
pub record Adds (s : ServerState) (events : List ServerEvent) (words : List ℕ) (t : ServerState) : Type 0 where
  pub list : t.pass.part.events ≡ s.pass.part.events ++ events
  pub took : t.pass.part.frames ≡ s.pass.part.frames ++ words
  pub shape : t.pass.part.shape ≡ s.pass.part.shape

-- a stream proxy, if it is home, goes on with these events
abbrev pub StreamAdds : Option ServerState → List ServerEvent → Option ServerState → Type 0
StreamAdds None events y = y ≡ None
StreamAdds (Some s) events y = (t : ServerState) × Adds s events [] t × (y ≡ Some t)

-- A hand goes on with these events, and knows what it knew of the server's list
pub record HandAdds (h : HandSide) (events : List HandEvent) (g : HandSide) : Type 0 where
  pub list : g.part.events ≡ h.part.events ++ events
  pub shape : g.part.shape ≡ h.part.shape
  pub known : g.known ≡ h.known

-- a stream proxy that is home and does these events, if any, goes on from what the hand knew of its list
abbrev pub Recalls : Option ServerState → List ServerEvent → HandSide → Type 0
Recalls stream events flag = (s : ServerState) → stream ≡ Some s → events ≢ [] → StartsWith s.pass.part.events flag.known

-- the tracks, the proxies of their blocks, their hands, and what was seen so far
pub record Serving : Type 0 where
  pub tracks : List TrackKept
  pub streams : List (Option ServerState)
  pub commands : List ServerState
  pub hands : List HandSide
  pub turns : List TrackSeen

-- A track's proxies and its hand do their part: h is what was heard of its stream, s the track once that was noted, and seen what the entry holds of it. The command proxy keeps its hand, and INVALID in the stream block stands behind what the hand knew
pub record Attends (given : Option ℕ) (h : Heard) (s : TrackKept) (command : ServerState) (stream : Option ServerState) (flag : HandSide) (seen : TrackSeen) (command' : ServerState) (stream' : Option ServerState) (flag' : HandSide) : Type 0 where
  pub fronts : List ℕ
  pub legal : IsServed given h seen s
  pub looks : LegalLooks (listed command) seen.looks fronts
  pub commanded : Adds command (all_command_events (listed command) seen.looks fronts ++ shut_events (is_found_shut h seen.looks) ++ status_events seen.status) (words_taken seen.looks) command'
  pub whole : command'.pass.has_hand ≡ command.pass.has_hand
  pub streamed : StreamAdds stream (shut_events (is_found_shut h seen.looks)) stream'
  pub recalled : Recalls stream (shut_events (is_found_shut h seen.looks)) flag
  pub disabled : HandAdds flag (disabled_events seen.disabled) flag'

-- the proxies and the hand of the track i do their part
pub record AttendsAt (given : Option ℕ) (h : Heard) (s : TrackKept) (i : ℕ) (streams : List (Option ServerState)) (commands : List ServerState) (hands : List HandSide) (seen : TrackSeen) (streams' : List (Option ServerState)) (commands' : List ServerState) (hands' : List HandSide) : Type 0 where
  pub command : ServerState
  pub has_command : slice_get commands i ≡ Some command
  pub flag : HandSide
  pub has_flag : slice_get hands i ≡ Some flag
  pub command' : ServerState
  pub stream' : Option ServerState
  pub flag' : HandSide
  pub attends : Attends given h s command (stream_at streams i) flag seen command' stream' flag'
  pub streams_are : streams' ≡ slice_set streams i stream'
  pub commands_are : commands' ≡ slice_set commands i command'
  pub hands_are : hands' ≡ slice_set hands i flag'

-- The track i has its part of the turn by what was learnt, and `seen` is what the entry is to hold of it
pub record ServesBy (c : Setup) (k : Learnt) (i : ℕ) (seen : TrackSeen) (x : Serving) (y : Serving) : Type 0 where
  pub command : ServerState
  pub has_command : slice_get x.commands i ≡ Some command
  pub flag : HandSide
  pub has_flag : slice_get x.hands i ≡ Some flag
  pub command' : ServerState
  pub stream' : Option ServerState
  pub flag' : HandSide
  pub attends : let s = track_at x.tracks i in Attends (slot_for c x.tracks i) (heard k i s) (ready k i s) command (stream_at x.streams i) flag seen command' stream' flag'
  pub leaves : y ≡ record {
    tracks = slice_set x.tracks i (served c k seen.looks x.tracks i);
    streams = slice_set x.streams i stream';
    commands = slice_set x.commands i command';
    hands = slice_set x.hands i flag';
    turns = x.turns;
  }

-- the track i has its part of the turn by what was learnt
pub record ServesOne (c : Setup) (k : Learnt) (i : ℕ) (x : Serving) (y : Serving) : Type 0 where
  pub command : ServerState
  pub has_command : slice_get x.commands i ≡ Some command
  pub flag : HandSide
  pub has_flag : slice_get x.hands i ≡ Some flag
  pub seen : TrackSeen
  pub command' : ServerState
  pub stream' : Option ServerState
  pub flag' : HandSide
  pub attends : let s = track_at x.tracks i in Attends (slot_for c x.tracks i) (heard k i s) (ready k i s) command (stream_at x.streams i) flag seen command' stream' flag'
  pub leaves : y ≡ record {
    tracks = slice_set x.tracks i (served c k seen.looks x.tracks i);
    streams = slice_set x.streams i stream';
    commands = slice_set x.commands i command';
    hands = slice_set x.hands i flag';
    turns = x.turns ++ seen ∷ [];
  }

-- the track i has its part of the turn; one that had ended is passed over
abbrev pub ServesTrack : Setup → Learnt → ℕ → Serving → Serving → Type 0
ServesTrack c k i x y = MatchBool (track_at x.tracks i).life.ended (y ≡ record x { turns = x.turns ++ nothing_seen ∷ [] }) (ServesOne c k i x y)

-- the first tracks have their parts of the turn
abbrev pub ServesTo : Setup → Learnt → ℕ → Serving → Serving → Type 0
ServesTo c k zero x y = y ≡ x
ServesTo c k (suc i) x y = (z : Serving) × ServesTo c k i x z × ServesTrack c k i z y
