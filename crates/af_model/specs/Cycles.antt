-- The cycles of a fast mixer: which entry is legal after a log, by the state that the mixer adopted and the words that it saw.
use Rattle.std.specs.Prelude.{◌≡◌, ℕ, zero, suc, ◌+◌, ◌-◌, ◌^◌, ◌<◌, ◌≤◌, ◌==◌, ◌&&◌, ◌||◌, Bool, true, false, if◌then◌else◌, is_some, fold, min, bit_or, MatchOption, List, [], ◌∷◌, ◌++◌, length, replicate, Option, Some, None, slice_index_or}
use Rattle.af_base.specs.declared.event.ServerEvent.{ServerEvent}
use Rattle.af_base.specs.declared.event.ServerEvent.TheVariants as server
use Rattle.af_base.specs.declared.log.Cycle.{Cycle}
use Rattle.af_base.specs.declared.log.Cycle.TheVariants as cycle
use Rattle.af_base.specs.declared.log.CycleEntry.{CycleEntry}
use Rattle.af_base.specs.declared.log.SlotEntry.{SlotEntry}
use Rattle.af_base.specs.declared.seen.Seen.{Seen}
use Rattle.af_base.specs.declared.seen.Seen.TheVariants as seen
use Rattle.af_base.specs.declared.state.Command.{Command}
use Rattle.af_base.specs.declared.state.Command.TheVariants.{ColdIdle, Exit, MixWrite}
use Rattle.af_base.specs.declared.state.FastState.{FastState}
use Rattle.af_base.specs.Log.{slots, absent, entry_slot, count_seen}
use Rattle.af_model.specs.declared.shape.Shape.{Shape}
use Rattle.af_model.specs.Room.{ahead}
use Rattle.af_model.specs.ServerCalls.{ServerKept, server_kept, look_at, look_events}
use Rattle.af_model.specs.StateQueue.{slot_of, carries}

-- ## What a cycle is

-- the state of a number among those adopted, of which the first has the number 1
abbrev pub state_of : List FastState → ℕ → Option FastState
state_of states zero = None
state_of [] (suc k) = None
state_of (x ∷ xs) (suc zero) = Some x
state_of (x ∷ xs) (suc (suc k)) = state_of xs (suc k)

-- the number of the state that the last entry used, 0 if there is no entry
abbrev pub last_used : List CycleEntry → ℕ
last_used entries = fold (λ number entry. entry.state) 0 entries

-- no entry used a state of a later number
abbrev pub UseUpTo : ℕ → List CycleEntry → Type 0
UseUpTo n [] = Unit {0}
UseUpTo n (entry ∷ entries) = (entry.state ≤ n) × UseUpTo n entries

abbrev pub is_exit : Cycle → Bool
is_exit cycle.Exit = true
is_exit _ = false

-- an Exit was answered
abbrev pub has_exit : List CycleEntry → Bool
has_exit entries = fold (λ found entry. found || is_exit entry.cycle) false entries

abbrev pub is_cold : Cycle → Bool
is_cold cycle.Cold = true
is_cold _ = false

-- the cold generation of a state, 0 if there is no state
abbrev pub cold_of : Option FastState → ℕ
cold_of None = 0
cold_of (Some x) = x.cold_gen

-- the cold generation performed last: that of the state of the last Cold entry, 0 if there is none
abbrev pub cold_done : List FastState → List CycleEntry → ℕ
cold_done states entries = fold (λ done entry. if is_cold entry.cycle then cold_of (state_of states entry.state) else done) 0 entries

-- What a cycle is by its state: an Exit, a cold idle that wasn't performed yet, a mix, and else idle
abbrev pub cycle_by : ℕ → ℕ → Command → Cycle
cycle_by done cold Exit = cycle.Exit
cycle_by done cold ColdIdle = if cold == done then cycle.Idle else cycle.Cold
cycle_by done cold MixWrite = cycle.Mixed
cycle_by done cold _ = cycle.Idle

-- what a cycle is if there may be no state: idle without one
abbrev pub cycle_of : ℕ → Option FastState → Cycle
cycle_of done None = cycle.Idle
cycle_of done (Some x) = cycle_by done x.cold_gen x.command

-- ## What the slots of a mix show

-- what a slot shows of so many frames
abbrev pub shown : ℕ → Seen
shown count = if count == 0 then seen.Empty else seen.Frames count

-- the submix: so many frames as the rear shows past the front, but no more than were asked for, at unity
abbrev pub submix_slot : (asked front rear first : ℕ) → SlotEntry
submix_slot asked front rear first = record { gains = 268439552; flush = 0; rear = rear; seen = shown (min asked (ahead front rear)); first = first }

-- all frames that are shown are taken
abbrev pub takes_shown : Seen → List ServerEvent
takes_shown (seen.Frames count) = server.Take count ∷ []
takes_shown _ = []

-- The slot of the submix with the list of the pipe's end before and after. In a history of the pipe the front seen is the number of frames taken before
pub record SubmixSlot (asked : ℕ) (before after : List ServerEvent) (slot : SlotEntry) : Type 0 where
  pub front : ℕ
  pub shows : slot ≡ submix_slot asked front slot.rear slot.first
  pub list : after ≡ before ++ server.SawRear slot.rear ∷ server.SawFront front ∷ takes_shown slot.seen

-- a server before a cycle: the shape of its block, and its list
pub record Listed : Type 0 where
  pub shape : Shape
  pub events : List ServerEvent

-- what a server's list tells of it
abbrev pub kept : Listed → ServerKept
kept s = server_kept s.shape s.events

-- a look shows something, and if it shows frames, at least one
abbrev pub IsSeen : Seen → Type 0
IsSeen seen.Absent = ⊥
IsSeen (seen.Frames count) = 1 ≤ count
IsSeen _ = Unit {0}

-- The look of a slot answers by the words seen and the server's own list before, and shows something. A server that was shut answers the words that shut it, and the flush count of that look
abbrev pub LooksBy : ℕ → Listed → SlotEntry → ℕ → Type 0
LooksBy asked s slot front = IsSeen slot.seen × MatchOption (kept s).shut
    (slot.seen ≡ look_at s.shape (kept s).flush asked slot.flush slot.rear front)
    (λ words. (slot.seen ≡ seen.Shut words.0 words.1) × (slot.flush ≡ (kept s).flush) × (slot.rear ≡ words.1))

-- the events by which missing frames are tallied, if there are some
abbrev pub tally : ℕ → List ServerEvent
tally missing = if missing == 0 then [] else server.Tally missing ∷ server.SetFlags 1 ∷ []

-- what follows a look: all frames shown are taken and those missing tallied, nothing after a flush, and INVALID once if it shuts the server
abbrev pub events_behind_look : ℕ → Bool → Seen → List ServerEvent
events_behind_look asked was_shut (seen.Frames count) = server.Take count ∷ tally (asked - count)
events_behind_look asked was_shut seen.Empty = tally asked
events_behind_look asked was_shut (seen.Shut front rear) = if was_shut then [] else server.SetFlags 4 ∷ []
events_behind_look asked was_shut _ = []

-- the events of a server in a cycle: its gains first, then the look, by a server that wasn't shut, and what follows
abbrev pub cycle_events : ℕ → Listed → SlotEntry → ℕ → List ServerEvent
cycle_events asked s slot front = let was_shut = is_some (kept s).shut in
    server.SawGain slot.gains ∷ (if was_shut then [] else look_events slot.seen slot.flush slot.rear front) ++ events_behind_look asked was_shut slot.seen

-- A slot of the mask with its server's list before and after
pub record TrackSlot (asked : ℕ) (s : Listed) (after : List ServerEvent) (slot : SlotEntry) : Type 0 where
  pub front : ℕ
  pub looks : LooksBy asked s slot front
  pub list : after ≡ s.events ++ cycle_events asked s slot front

-- ## The entry

-- where the frames of a slot begin: at this place in the log's frames, and at 0 if it took none
abbrev pub place_of : ℕ → Seen → ℕ
place_of place answer = if count_seen answer == 0 then 0 else place

-- how many frames the first slots of an entry took
abbrev pub taken_before : CycleEntry → ℕ → ℕ
taken_before entry zero = 0
taken_before entry (suc i) = taken_before entry i + count_seen (entry_slot entry i).seen

-- an entry in which every slot is absent
abbrev pub still_entry : ℕ → Cycle → CycleEntry
still_entry state cycle = record { state = state; cycle = cycle; slots = replicate slots absent; scales = replicate slots 0; mono = 0 }

-- the slot i has a track that is mono
abbrev pub is_mono : FastState → ℕ → Bool
is_mono x i = carries x i && (slot_of x i).mono

-- the marks of the first slots: bit i is set if slot i is mono
abbrev pub mono_marks : FastState → ℕ → ℕ
mono_marks x zero = 0
mono_marks x (suc i) = bit_or (mono_marks x i) (if is_mono x i then 2 ^ i else 0)

-- the scale of a slot in the mix: that of its track, unity for the submix, and 0 for a slot that isn't of the mask
abbrev pub mix_scale : FastState → ℕ → ℕ
mix_scale x i = if i == 0 then 4096 else if carries x i then (slot_of x i).scale else 0

-- what a cycle finds, or leaves: the list of the pipe's end, and the servers of the slots
pub record Found : Type 0 where
  pub pipe : List ServerEvent
  pub servers : ℕ → Listed

-- A Mixed entry under the state x: the submix, the tracks of the mask by their looks, and absent slots. The log had `place` frames before, and those of the slots follow one another from there on
pub record Mixes (asked : ℕ) (x : FastState) (place : ℕ) (before after : Found) (entry : CycleEntry) : Type 0 where
  pub whole : (length entry.slots ≡ slots) × (length entry.scales ≡ slots)
  pub submix : SubmixSlot asked before.pipe after.pipe (entry_slot entry 0)
  pub tracks : (i : ℕ) → i < slots → carries x i ≡ true → TrackSlot asked (before.servers i) (after.servers i).events (entry_slot entry i)
  pub others : (i : ℕ) → 0 < i → i < slots → carries x i ≡ false → entry_slot entry i ≡ absent
  pub placed : (i : ℕ) → i < slots → (entry_slot entry i).first ≡ place_of (place + taken_before entry i) (entry_slot entry i).seen
  pub scales : (i : ℕ) → i < slots → slice_index_or entry.scales i 0 ≡ mix_scale x i
  pub mono : entry.mono ≡ mono_marks x slots

abbrev pub is_mixed : Cycle → Bool
is_mixed cycle.Mixed = true
is_mixed _ = false

-- An entry that follows a log by the states pushed or adopted so far: its state is that of the entry before or the next one, and was pushed, no Exit stands before it, it is what its state makes it, and its slots are those of a mix, or absent
pub record LegalCycle (asked : ℕ) (states : List FastState) (entries : List CycleEntry) (place : ℕ) (before after : Found) (entry : CycleEntry) : Type 0 where
  pub follows : (last_used entries ≤ entry.state) × (entry.state ≤ last_used entries + 1)
  pub pushed : entry.state ≤ length states
  pub runs : has_exit entries ≡ false
  pub what : entry.cycle ≡ cycle_of (cold_done states entries) (state_of states entry.state)
  pub still : is_mixed entry.cycle ≡ false → entry ≡ still_entry entry.state entry.cycle
  pub mixes : (x : FastState) → state_of states entry.state ≡ Some x → is_mixed entry.cycle ≡ true → Mixes asked x place before after entry
