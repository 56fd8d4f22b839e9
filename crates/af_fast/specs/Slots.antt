-- What a cycle does with the servers of its slots.
use Rattle.std.specs.Prelude.{◌≡◌, ℕ, ◌+◌, ◌<◌, ◌≤◌, ◌++◌, true, false, List, [], length, map, take, Option, Some, None, replicate, slice_set, slice_index_or}
use Rattle.af_base.specs.declared.frame.Frame.{Frame}
use Rattle.af_base.specs.declared.log.CycleEntry.{CycleEntry}
use Rattle.af_base.specs.declared.log.SlotEntry.{SlotEntry}
use Rattle.af_base.specs.declared.state.FastState.{FastState}
use Rattle.af_base.specs.Log.{slots, Logged, absent, entry_slot, count_seen, frames_taken}
use Rattle.af_base.specs.Sample.{packed_word}
use Rattle.af_model.specs.Cycles.{Listed, TrackSlot, SubmixSlot, Found, Mixes, place_of, taken_before, is_mixed, mix_scale, mono_marks}
use Rattle.af_model.specs.StateQueue.{carries}
use Rattle.af_server.specs.Order.{ServerState}
use Rattle.af_server.specs.Slot.{listed, Plays}
use Rattle.af_stateq.specs.Mutates.{at}
use Rattle.af_stateq.specs.Observes.{Observes}
use Rattle.af_link.specs.PipeEnds.{OutSide}
use Rattle.af_link.specs.declared.names.StreamNames.{StreamNames}

-- the list of a slot's server, as a cycle finds it, if the slot has one
abbrev pub listed_at : Option ServerState → Listed
listed_at None = record { shape = record { frames = 0; cells = 0; base = 0; wrap = 0 }; events = [] }
listed_at (Some s) = listed s

-- what a cycle finds, or leaves, of the pipe's end and of the observer's items
abbrev pub found : Observes ServerState StreamNames → OutSide → Found
found o p = record { pipe = p.pass.part.events; servers = (λ i. listed_at (at o.items i)) }

-- the entries of a log stay, and it has no less room
abbrev pub SameEntries : Logged → Logged → Type 0
SameEntries l l' = (l'.entries ≡ l.entries) × (l'.room ≡ l.room) × (l.frame_room ≤ l'.frame_room)

-- The proxy of a slot was played, and nothing else of the observer has changed
pub record PlaysSlot (asked place slot : ℕ) (o o' : Observes ServerState StreamNames) (buffer : List Frame) (entry : SlotEntry) : Type 0 where
  pub old : ServerState
  pub new : ServerState
  pub was : at o.items slot ≡ Some old
  pub is : o' ≡ record o { items = slice_set o.items slot (Some new) }
  pub plays : Plays asked place old buffer entry new

-- the proxy of a slot was played, and the frames that it showed are in the log
pub record LogsSlot (asked slot : ℕ) (o o' : Observes ServerState StreamNames) (frames frames' : List Frame) (entry : SlotEntry) : Type 0 where
  pub buffer : List Frame
  pub long : length buffer ≡ asked
  pub grown : frames' ≡ frames ++ take (count_seen entry.seen) buffer
  pub plays : PlaysSlot asked (length frames) slot o o' buffer entry

-- the frames that the pipe showed were taken to the front of the buffer
pub record PlaysPipe (asked place : ℕ) (p p' : OutSide) (buffer : List Frame) (entry : SlotEntry) : Type 0 where
  pub submix : SubmixSlot asked p.pass.part.events p'.pass.part.events entry
  pub took : p'.pass.part.frames ≡ p.pass.part.frames ++ map packed_word (take (count_seen entry.seen) buffer)
  pub within : count_seen entry.seen ≤ asked
  pub place_is : entry.first ≡ place_of place entry.seen

-- the pipe was played, and the frames that it showed are in the log
pub record LogsPipe (asked : ℕ) (p p' : OutSide) (frames frames' : List Frame) (entry : SlotEntry) : Type 0 where
  pub buffer : List Frame
  pub long : length buffer ≡ asked
  pub grown : frames' ≡ frames ++ take (count_seen entry.seen) buffer
  pub plays : PlaysPipe asked (length frames) p p' buffer entry

-- one proxy, before and after a cycle, by what its slot shows and the frames of the log
pub record SlotPlayed (asked : ℕ) (before after : Option ServerState) (frames : List Frame) (entry : SlotEntry) : Type 0 where
  pub old : ServerState
  pub new : ServerState
  pub was : before ≡ Some old
  pub is : after ≡ Some new
  pub plays : TrackSlot asked (listed old) new.pass.part.events entry
  pub frames_are : new.pass.part.frames ≡ old.pass.part.frames ++ map packed_word (frames_taken frames entry)

-- The tracks of the slots from 1 to i were played. The log had `place` frames before the cycle, and `first` at slot 1
pub record PlayedTo (asked : ℕ) (x : FastState) (place : ℕ) (o o' : Observes ServerState StreamNames) (first frames : List Frame) (entry entry' : CycleEntry) (i : ℕ) : Type 0 where
  pub whole : length entry'.slots ≡ slots
  pub others : entry' ≡ record entry { slots = entry'.slots }
  pub same : o' ≡ record o { items = o'.items }
  pub submix : (entry_slot entry' 0 ≡ entry_slot entry 0) × (at o'.items 0 ≡ at o.items 0)
  pub grown : List Frame
  pub grown_is : frames ≡ first ++ grown
  pub total : length frames ≡ place + taken_before entry' i
  pub placed : (j : ℕ) → j < i → (entry_slot entry' j).first ≡ place_of (place + taken_before entry' j) (entry_slot entry' j).seen
  pub inside : (j : ℕ) → j < i → (entry_slot entry' j).first + count_seen (entry_slot entry' j).seen ≤ length frames
  pub within : (j : ℕ) → j < i → count_seen (entry_slot entry' j).seen ≤ asked
  pub tracks : (j : ℕ) → 0 < j → j < i → carries x j ≡ true → SlotPlayed asked (at o.items j) (at o'.items j) frames (entry_slot entry' j)
  pub quiet : (j : ℕ) → 0 < j → j < i → carries x j ≡ false → (at o'.items j ≡ at o.items j) × (entry_slot entry' j ≡ absent)
  pub rest : (j : ℕ) → i ≤ j → j < slots → (at o'.items j ≡ at o.items j) × (entry_slot entry' j ≡ absent)

-- the state has no track in this slot, or in a later one
abbrev pub IsQuietFrom : FastState → ℕ → Type 0
IsQuietFrom x used = (i : ℕ) → used ≤ i → carries x i ≡ false

-- the entry of a mix before its slots are played
pub record IsMarked (number : ℕ) (x : FastState) (entry : CycleEntry) : Type 0 where
  pub state : entry.state ≡ number
  pub mixed : is_mixed entry.cycle ≡ true
  pub absent_all : entry.slots ≡ replicate slots absent
  pub whole : length entry.scales ≡ slots
  pub scales : (i : ℕ) → i < slots → slice_index_or entry.scales i 0 ≡ mix_scale x i
  pub mono : entry.mono ≡ mono_marks x slots

-- All slots of a mix were played: the entry is that of a mix, the log's frames grew by those that its slots took, and each end took just these
pub record PlaysSlots (asked number : ℕ) (x : FastState) (o o' : Observes ServerState StreamNames) (p p' : OutSide) (frames frames' : List Frame) (entry : CycleEntry) : Type 0 where
  pub state : entry.state ≡ number
  pub mixed : is_mixed entry.cycle ≡ true
  pub mixes : Mixes asked x (length frames) (found o p) (found o' p') entry
  pub same : o' ≡ record o { items = o'.items }
  pub grown : (more : List Frame) × (frames' ≡ frames ++ more)
  pub total : length frames' ≡ length frames + taken_before entry slots
  pub within : (i : ℕ) → i < slots → count_seen (entry_slot entry i).seen ≤ asked
  pub piped : p'.pass.part.frames ≡ p.pass.part.frames ++ map packed_word (frames_taken frames' (entry_slot entry 0))
  pub tracks : (i : ℕ) → i < slots → carries x i ≡ true → SlotPlayed asked (at o.items i) (at o'.items i) frames' (entry_slot entry i)
  pub others : (i : ℕ) → i < slots → carries x i ≡ false → at o'.items i ≡ at o.items i
