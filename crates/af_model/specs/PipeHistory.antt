-- The history of a pipe: which order of its two ends' events is legal. A pipe is a block whose first position is 0, and its ends put and take frames, look, meet, and do nothing else.
use Rattle.std.specs.Prelude.{◌≡◌, ℕ, ◌+◌, ◌-◌, ◌%◌, ◌≤◌, ◌==◌, nat_le, if◌then◌else◌, Bool, true, false, List, [], ◌∷◌, length, take}
use Rattle.std.specs.List.{list_all}
use Rattle.af_base.specs.declared.event.ClientEvent.{ClientEvent}
use Rattle.af_base.specs.declared.event.ClientEvent.TheVariants as client
use Rattle.af_base.specs.declared.event.ServerEvent.{ServerEvent}
use Rattle.af_base.specs.declared.event.ServerEvent.TheVariants as server
use Rattle.af_model.specs.Point.{wrapped}
use Rattle.af_model.specs.Room.{ahead}
use Rattle.af_model.specs.Order.{Event, one, two, Legal, point_after, HasOrder}

-- the point of a pipe: how many frames were put and taken, how many of those put the last rear seen shows, and how many events each end has had
pub record PipePoint : Type 0 where
  pub put : ℕ
  pub taken : ℕ
  pub shown : ℕ
  pub puts : ℕ
  pub takes : ℕ

abbrev pub start_of_pipe : PipePoint
start_of_pipe = record { put = 0; taken = 0; shown = 0; puts = 0; takes = 0 }

-- the frames that there is room for, if so many were put and this front is seen
abbrev pub room_by : ℕ → ℕ → ℕ → ℕ
room_by size put front = size - ahead front (wrapped put)

-- Frames are put only if there is room. A front seen is the number of frames taken, and the room by it is the pipe's size minus the frames put and not taken. A rear seen is the number of frames put, and frames are taken up to it. What was learnt stands before
abbrev pub legal_in_pipe : ℕ → PipePoint → Event ClientEvent ServerEvent → Type 0
legal_in_pipe size p (one (client.Release count)) = p.put + count ≤ p.taken + size
legal_in_pipe size p (one (client.SawFront front)) = (front ≡ wrapped p.taken) × (room_by size p.put front ≡ size - (p.put - p.taken))
legal_in_pipe size p (one (client.Learn count)) = count ≤ p.takes
legal_in_pipe size p (one _) = ⊥
legal_in_pipe size p (two (server.SawRear rear)) = rear ≡ wrapped p.put
legal_in_pipe size p (two (server.SawFront front)) = front ≡ wrapped p.taken
legal_in_pipe size p (two (server.Take count)) = p.taken + count ≤ p.shown
legal_in_pipe size p (two (server.Learn count)) = count ≤ p.puts
legal_in_pipe size p (two _) = ⊥

abbrev pub next_in_pipe : PipePoint → Event ClientEvent ServerEvent → PipePoint
next_in_pipe p (one (client.Release count)) = record p { put = p.put + count; puts = p.puts + 1 }
next_in_pipe p (one _) = record p { puts = p.puts + 1 }
next_in_pipe p (two (server.SawRear rear)) = record p { shown = p.put; takes = p.takes + 1 }
next_in_pipe p (two (server.Take count)) = record p { taken = p.taken + count; takes = p.takes + 1 }
next_in_pipe p (two _) = record p { takes = p.takes + 1 }

-- There is a legal order of both ends' events. The frames put and taken are as many as these say, and those taken begin those put
pub record HasPipeHistory (size : ℕ) (puts : List ClientEvent) (put : List ℕ) (takes : List ServerEvent) (taken : List ℕ) : Type 0 where
  pub history : HasOrder (legal_in_pipe size) next_in_pipe start_of_pipe puts takes
  pub put_is : (point_after (legal_in_pipe size) next_in_pipe start_of_pipe history.order).put ≡ length put
  pub taken_is : (point_after (legal_in_pipe size) next_in_pipe start_of_pipe history.order).taken ≡ length taken
  pub begins : taken ≡ take (length taken) put

-- A put of n frames after so many is one release, or two if the index reaches the number of cells in between. No frames are no release
abbrev pub releases_of : ℕ → ℕ → ℕ → List ClientEvent
releases_of cells put n =
    let left = cells - put % cells in
    if n == 0 then [] else if nat_le n left then client.Release n ∷ [] else client.Release left ∷ client.Release (n - left) ∷ []

-- ## What each end does by itself

-- what the end that puts knows: how many frames it put, and the front last seen
pub record PutKept : Type 0 where
  pub put : ℕ
  pub front : ℕ

abbrev pub nothing_put : PutKept
nothing_put = record { put = 0; front = 0 }

-- frames are put only if there is room by the front last seen
abbrev pub may_put : ℕ → PutKept → ClientEvent → Type 0
may_put size k (client.Release count) = count ≤ room_by size k.put k.front
may_put size k (client.SawFront front) = Unit {0}
may_put size k (client.Learn count) = Unit {0}
may_put size k _ = ⊥

abbrev pub after_put : PutKept → ClientEvent → PutKept
after_put k (client.Release count) = record k { put = k.put + count }
after_put k (client.SawFront front) = record k { front = front }
after_put k _ = k

-- the list of an end that puts
abbrev pub IsPutList : ℕ → List ClientEvent → Type 0
IsPutList size events = Legal (may_put size) after_put nothing_put events

-- what the list of the end that puts tells of it
abbrev pub put_kept : ℕ → List ClientEvent → PutKept
put_kept size events = point_after (may_put size) after_put nothing_put events

abbrev pub is_taking : ServerEvent → Bool
is_taking (server.SawRear rear) = true
is_taking (server.SawFront front) = true
is_taking (server.Take count) = true
is_taking (server.Learn count) = true
is_taking _ = false

-- the list of an end that takes
abbrev pub IsTakeList : List ServerEvent → Type 0
IsTakeList events = list_all is_taking events ≡ true
