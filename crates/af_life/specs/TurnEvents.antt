-- What a turn adds to the list of each party's end, as its calls spell it. A turn that has ended adds nothing, but for the look at the acknowledgement by which it ended.
use Rattle.std.specs.Prelude.{ℕ, ◌+◌, ◌-◌, ◌%◌, ◌^◌, ◌==◌, ◌&&◌, not, Bool, if◌then◌else◌, List, [], ◌∷◌, ◌++◌, length, filter, Option, Some, None}
use Rattle.std.specs.List.{flat_map}
use Rattle.af_base.specs.declared.event.ClientEvent.{ClientEvent}
use Rattle.af_base.specs.declared.event.ClientEvent.TheVariants as client
use Rattle.af_base.specs.declared.event.HandEvent.{HandEvent}
use Rattle.af_base.specs.declared.event.HandEvent.TheVariants as hand
use Rattle.af_base.specs.declared.event.ServerEvent.{ServerEvent}
use Rattle.af_base.specs.declared.event.ServerEvent.TheVariants as server
use Rattle.af_base.specs.declared.state.Push.{Push}
use Rattle.af_base.specs.declared.state.Push.TheVariants.{Pushed, Clean, Busy}
use Rattle.af_base.specs.Turn.{Turn, TakeSeen, TrackSeen}
use Rattle.af_model.specs.declared.states.MutatorEvent.{MutatorEvent}
use Rattle.af_model.specs.declared.states.MutatorEvent.TheVariants as mutator
use Rattle.af_model.specs.Cycles.{cycle_events}
use Rattle.af_model.specs.PipeHistory.{releases_of}
use Rattle.af_life.specs.declared.kept.TrackKept.{TrackKept}
use Rattle.af_life.specs.Kept.{Setup, asked, pipe_size, NormalKept, Outside, Learnt, track_at, track_in, is_home}
use Rattle.af_life.specs.Heard.{learnt, heard}
use Rattle.af_life.specs.Looks.{all_command_events}
use Rattle.af_life.specs.Serves.{is_found_shut, served_to}
use Rattle.af_life.specs.Edits.{after_ack}
use Rattle.af_life.specs.Plays.{put_by}
use Rattle.af_life.specs.Turn.{after_edits}

-- ## The tracks. `tracks` are the tracks as those before the track i left them

-- the tracks when the track i is served
abbrev pub tracks_at : Setup → Learnt → NormalKept → Turn → ℕ → List TrackKept
tracks_at c k m e i = served_to c k e.tracks (after_ack e.ack m).tracks i

-- these events, or none if the turn has ended
abbrev pub going : {E : Type 0} → Turn → List E → List E
going e events = if e.ended then [] else events

-- INVALID, if the track is found shut
abbrev pub invalid : Learnt → TrackSeen → List TrackKept → ℕ → List ServerEvent
invalid k seen tracks i = let s = track_at tracks i in if not s.life.ended && is_found_shut (heard k i s) seen.looks then server.SetFlags 4 ∷ [] else []

-- the status stored
abbrev pub status_events : Option ℕ → List ServerEvent
status_events None = []
status_events (Some word) = server.SetStatus word ∷ []

-- what the server of the command block does for a track: its looks with their takes, INVALID and the status
abbrev pub command_events_of : Setup → Outside → TrackSeen → List TrackKept → ℕ → List ServerEvent
command_events_of c o seen tracks i = all_command_events (o.commands i) seen.looks (o.command_fronts i) ++ invalid (learnt o) seen tracks i ++ status_events seen.status

-- the events of the server of the command block
abbrev pub command_list : Setup → Outside → Turn → List TrackKept → ℕ → List ServerEvent
command_list c o e tracks i = going e (command_events_of c o (track_in e i) tracks i)

-- the events of the hand of the stream block: DISABLED
abbrev pub hand_events_of : Turn → ℕ → List HandEvent
hand_events_of e i = going e (if (track_in e i).disabled then hand.SetFlags 8 ∷ [] else [])

-- the takes of a track
abbrev pub takes_from : List TakeSeen → ℕ → List TakeSeen
takes_from takes i = filter (λ take. take.track == i) takes

-- the events of a track's mix: gains, look, take and missing frames
abbrev pub mix_events : Setup → Outside → List TakeSeen → ℕ → List ServerEvent
mix_events c o takes i = flat_map (λ take. cycle_events (asked c) (o.streams i) take.slot (o.stream_front i)) (takes_from takes i)

-- the events of the server of the stream block: INVALID, if it is home, and those of the mix
abbrev pub stream_list : Setup → Outside → Turn → List TrackKept → ℕ → List ServerEvent
stream_list c o e tracks i =
    going e ((if is_home (track_at tracks i).holder then invalid (learnt o) (track_in e i) tracks i else []) ++ mix_events c o e.mixes i)

-- ## The other ends

-- the front by which a pipe of this size, into which so many frames were put, has this room
abbrev pub front_by_room : ℕ → ℕ → ℕ → ℕ
front_by_room size put room = (put + 2 ^ 32 - (size - room)) % 2 ^ 32

-- the events of the writing end of a pipe with so many cells, into which so many frames were put: the room seen, and the releases of a buffer
abbrev pub pipe_list : Setup → ℕ → ℕ → Turn → List ClientEvent
pipe_list c cells put e = going e (client.SawFront (front_by_room (pipe_size c) put e.room) ∷ releases_of cells put (length (put_by c e.mixes)))

-- the number that a look at the acknowledgement sees
abbrev pub number_seen : NormalKept → Bool → ℕ
number_seen m ack = if ack then m.pushed else m.pushed - 1

module _ {P : Type 0} where
  -- a push: a look if a push stands, and then the next state with its items
  abbrev pub push_list : NormalKept → Push → List (Option P) → List (Option P) → List (MutatorEvent P)
  push_list m Clean again sent = []
  push_list m (Busy seen expected) again sent = mutator.SawAck (m.pushed - 1) again ∷ []
  push_list m (Pushed number) again sent = (if m.pushed == 0 then [] else mutator.SawAck m.pushed again ∷ []) ++ mutator.Push number m.draft sent ∷ []

  -- the events of the mutator: its look with the items that come by it, and the push with those that come or go by it
  abbrev pub mutator_list : Setup → Learnt → NormalKept → Turn → List (Option P) → List (Option P) → List (Option P) → List (MutatorEvent P)
  mutator_list c k m e back again sent =
      if m.ended then []
      else mutator.SawAck (number_seen m e.ack) back ∷ going e (push_list (after_edits c k e m) e.push again sent)
