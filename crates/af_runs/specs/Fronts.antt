-- Which front a look saw. An entry doesn't hold it: the rear, the flush word and the answer tell it, but for answers that leave it open.
use Rattle.std.specs.Prelude.{ℕ, ◌+◌, ◌-◌, ◌^◌, ◌==◌, ◌&&◌, nat_lt, not, Bool, true, false, if◌then◌else◌, List, [], ◌∷◌}
use Rattle.af_base.specs.declared.log.SlotEntry.{SlotEntry}
use Rattle.af_base.specs.declared.seen.Seen.{Seen}
use Rattle.af_base.specs.declared.seen.Seen.TheVariants as seen
use Rattle.af_base.specs.declared.turn.CommandLook.{CommandLook}
use Rattle.af_life.specs.Looks.{as_slot, command_events, did}
use Rattle.af_model.specs.declared.shape.Shape.{Shape}
use Rattle.af_model.specs.Cycles.{Listed, kept}
use Rattle.af_model.specs.Point.{wrapped}
use Rattle.af_model.specs.Room.{ahead}
use Rattle.af_model.specs.ServerCalls.{flush_position}
use Rattle.af_model.specs.Spelled.{own_front}

-- the word so many before a position
abbrev pub behind : ℕ → ℕ → ℕ
behind position count = wrapped (position + (2 ^ 32 - wrapped count))

-- the answer leaves the front open: all frames that were asked for, or, if flush words carry positions, a flush that drops nothing
abbrev pub leaves_open : Shape → ℕ → Seen → Bool
leaves_open k asked (seen.Frames count) = count == asked
leaves_open k asked (seen.Flushed dropped) = not (k.wrap == 0) && (dropped == 0)
leaves_open k asked _ = false

-- the front by which a flush dropped so many frames: for wrap 0 it lies as far before the rear, and else before the position of the flush
abbrev pub flushed_front : (wrap flush rear dropped : ℕ) → ℕ
flushed_front wrap flush rear dropped = if wrap == 0 then behind rear dropped else if dropped == 0 then rear else behind (flush_position wrap flush rear) dropped

-- a front by which the look answers so: the only one, if the answer doesn't leave it open
abbrev pub front_by_answer : Shape → SlotEntry → ℕ
front_by_answer k slot =
    elim slot.seen as (λ s. ℕ) [
      | seen.Absent ↦ slot.rear
      | seen.Frames count ↦ behind slot.rear count
      | seen.Empty ↦ slot.rear
      | seen.Flushed dropped ↦ flushed_front k.wrap slot.flush slot.rear dropped
      | seen.Shut front rear ↦ front
    ]

-- the server's own front lies in the block, by this rear
abbrev pub is_own_inside : Listed → ℕ → Bool
is_own_inside s rear = not (nat_lt s.shape.frames (ahead (own_front s.shape (kept s)) rear))

-- The front on a block without a poke: the server's own, if the answer leaves it open
abbrev pub lawful_front : ℕ → Listed → SlotEntry → ℕ
lawful_front asked s slot = if leaves_open s.shape asked slot.seen then own_front s.shape (kept s) else front_by_answer s.shape slot

-- The front that a journal tells: the server's own, if the answer leaves it open and that front could give it. On a block that was poked the look may have seen another one
abbrev pub front_of : ℕ → Listed → SlotEntry → ℕ
front_of asked s slot = if leaves_open s.shape asked slot.seen && is_own_inside s slot.rear then own_front s.shape (kept s) else front_by_answer s.shape slot

-- the fronts of looks at a command block, one after the other
abbrev pub fronts_by : (ℕ → Listed → SlotEntry → ℕ) → Listed → List CommandLook → List ℕ
fronts_by front s [] = []
fronts_by front s (look ∷ looks) = let f = front 2 s (as_slot look) in f ∷ fronts_by front (did s (command_events s look f)) looks

-- a slot shows something
abbrev pub is_shown : Seen → Bool
is_shown seen.Absent = false
is_shown _ = true
