-- What contracts see of a log, and what an entry gives to the mix.
use Rattle.std.specs.Prelude.{ℕ, ◌==◌, List, [], map, take, drop, slice_index_or}
use Rattle.std.specs.Int.{bit_at}
use Rattle.std.specs.List.{range_with_len}
use Rattle.af_base.specs.declared.frame.Frame.{Frame}
use Rattle.af_base.specs.declared.seen.Seen.{Seen}
use Rattle.af_base.specs.declared.seen.Seen.TheVariants.{Frames, Absent}
use Rattle.af_base.specs.declared.log.SlotEntry.{SlotEntry}
use Rattle.af_base.specs.declared.log.Cycle.{Cycle}
use Rattle.af_base.specs.declared.log.Cycle.TheVariants.{Cold, Exit, Idle, Mixed, Spent}
use Rattle.af_base.specs.declared.log.CycleEntry.{CycleEntry}
use Rattle.af_base.specs.declared.state.TheConstants.{SLOTS}
use Rattle.af_base.specs.Mix.{Take}

-- the number of slots
abbrev pub slots : ℕ
slots = SLOTS

-- a log: its entries, the frames that they took, and for how many entries and frames it has room in all
pub record Logged : Type 0 where
  pub entries : List CycleEntry
  pub frames : List Frame
  pub room : ℕ
  pub frame_room : ℕ

-- What a log says, whatever room it has: contracts compare logs by this
pub record LogContents : Type 0 where
  pub entries : List CycleEntry
  pub frames : List Frame

abbrev pub log_of : Logged → LogContents
log_of l = record { entries = l.entries; frames = l.frames }

-- the number of a kind of cycle
abbrev pub kind_of : Cycle → ℕ
kind_of Mixed = 0
kind_of Idle = 1
kind_of Cold = 2
kind_of Exit = 3
kind_of (Spent cycles) = 4

-- what stands past the end of the entries
abbrev pub no_entry : CycleEntry
no_entry = record { state = 0; cycle = Idle; slots = []; scales = []; mono = 0 }

abbrev pub entry_at : List CycleEntry → ℕ → CycleEntry
entry_at entries index = slice_index_or entries index no_entry

-- a slot that isn't of the mask
abbrev pub absent : SlotEntry
absent = record { gains = 0; flush = 0; rear = 0; seen = Absent; first = 0 }

-- the slot i of an entry
abbrev pub entry_slot : CycleEntry → ℕ → SlotEntry
entry_slot entry i = slice_index_or entry.slots i absent

-- how many frames a look showed, all of which were taken
abbrev pub count_seen : Seen → ℕ
count_seen (Frames count) = count
count_seen _ = 0

-- the frames that a slot took
abbrev pub frames_taken : List Frame → SlotEntry → List Frame
frames_taken frames slot = take (count_seen slot.seen) (drop slot.first frames)

-- what the slot i of an entry gives to the mix: a slot that took no frames gives silence
abbrev pub slot_take : List Frame → CycleEntry → ℕ → Take
slot_take frames entry i = record {
  frames = frames_taken frames (entry_slot entry i);
  mono = bit_at entry.mono i == 1;
  gains = (entry_slot entry i).gains;
  scale = slice_index_or entry.scales i 0;
}

-- the takes of an entry
abbrev pub takes_of : List Frame → CycleEntry → List Take
takes_of frames entry = map (slot_take frames entry) (range_with_len 0 slots)
