-- What a mixer does with the server of one slot.
use Rattle.std.specs.Prelude.{◌≡◌, ℕ, ◌≤◌, ◌++◌, List, map, take}
use Rattle.af_base.specs.declared.event.ServerEvent.{ServerEvent}
use Rattle.af_base.specs.declared.frame.Frame.{Frame}
use Rattle.af_base.specs.declared.log.SlotEntry.{SlotEntry}
use Rattle.af_base.specs.Log.{count_seen}
use Rattle.af_base.specs.Sample.{packed_word}
use Rattle.af_model.specs.Cycles.{Listed, TrackSlot, place_of}
use Rattle.af_server.specs.Order.{ServerState}

-- a server with its list, as a cycle finds it
abbrev pub listed : ServerState → Listed
listed s = record { shape = s.pass.part.shape; events = s.pass.part.events }

-- the server has done these events more, and taken these frames
pub record HasDone (s : ServerState) (events : List ServerEvent) (frames : List Frame) (t : ServerState) : Type 0 where
  pub did : t.pass.part.events ≡ s.pass.part.events ++ events
  pub took : t.pass.part.frames ≡ s.pass.part.frames ++ map packed_word frames

-- The slot of a server was played: its list grew by the slot's events, and its frames by those that the slot shows, which stand at the front of the buffer
pub record Plays (asked place : ℕ) (s : ServerState) (buffer : List Frame) (entry : SlotEntry) (t : ServerState) : Type 0 where
  pub slot : TrackSlot asked (listed s) t.pass.part.events entry
  pub frames : t.pass.part.frames ≡ s.pass.part.frames ++ map packed_word (take (count_seen entry.seen) buffer)
  pub within : count_seen entry.seen ≤ asked
  pub place_is : entry.first ≡ place_of place entry.seen
