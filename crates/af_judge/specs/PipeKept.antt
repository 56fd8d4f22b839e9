-- What is kept of the pipe, and when the lists of its ends have a history.
use Rattle.std.specs.Prelude.{◌≡◌, ℕ, ◌+◌, ◌-◌, ◌%◌, ◌≤◌, ◌^◌, List, [], ◌∷◌, ◌++◌, fold, length, map, take}
use Rattle.af_base.specs.declared.event.ClientEvent.{ClientEvent}
use Rattle.af_base.specs.declared.event.ClientEvent.TheVariants as client
use Rattle.af_base.specs.declared.event.ServerEvent.{ServerEvent}
use Rattle.af_base.specs.declared.event.ServerEvent.TheVariants as server
use Rattle.af_base.specs.declared.frame.Frame.{Frame}
use Rattle.af_base.specs.declared.seen.Seen.{Seen}
use Rattle.af_base.specs.Sample.{packed_word}
use Rattle.af_model.specs.declared.point.TrackPoint.{TrackPoint}
use Rattle.af_model.specs.Cycles.{takes_shown}
use Rattle.af_merges.specs.Merges.{HasLegalOrder}
use Rattle.af_model.specs.PipeHistory.{IsPutList, IsTakeList, releases_of}
use Rattle.af_model.specs.Point.{wrapped}

-- the pipe: its frames and cells, the events of its ends, and the words of the frames put and taken
pub record PipeKept : Type 0 where
  pub size : ℕ
  pub cells : ℕ
  pub puts : List ClientEvent
  pub put : List ℕ
  pub takes : List ServerEvent
  pub taken : List ℕ

-- a pipe at which nothing was done
abbrev pub new_pipe : (size cells : ℕ) → PipeKept
new_pipe size cells = record { size = size; cells = cells; puts = []; put = []; takes = []; taken = [] }

-- the end that puts saw this front
abbrev pub saw_front : ℕ → PipeKept → PipeKept
saw_front front p = record p { puts = p.puts ++ client.SawFront front ∷ [] }

-- these frames were put
abbrev pub with_put : List Frame → PipeKept → PipeKept
with_put frames p = record p { puts = p.puts ++ releases_of p.cells (length p.put) (length frames); put = p.put ++ map packed_word frames }

-- the end that takes saw this rear and the front of all frames taken, and took these frames
abbrev pub with_look : ℕ → Seen → List Frame → PipeKept → PipeKept
with_look rear shown frames p = record p { takes = p.takes ++ server.SawRear rear ∷ server.SawFront (wrapped (length p.taken)) ∷ takes_shown shown; taken = p.taken ++ map packed_word frames }

-- the ends of the pipe meet
abbrev pub with_meeting : PipeKept → PipeKept
with_meeting p = record p { puts = p.puts ++ client.Learn (length p.takes) ∷ []; takes = p.takes ++ server.Learn (length p.puts) ∷ [] }

-- the point before any event of a block that begins at 0
abbrev pub pipe_begins : TrackPoint
pipe_begins = record { released = 0; consumed = 0; flushes = 0; flush_seen = 0; rear_seen = 0; gains = 268439552; flags = 0; status = 0; underruns = 0; flush_at = 0; drop_to = 0; wrap = 0 }

-- the lists stand in some legal order, and the frames taken begin those put
abbrev pub HasPipeOrder : PipeKept → Type 0
HasPipeOrder p = HasLegalOrder pipe_begins p.puts p.takes [] × (p.taken ≡ take (length p.taken) p.put)

-- the front by which a pipe of this size, into which so many frames were put, has this room
abbrev pub front_by_room : ℕ → ℕ → ℕ → ℕ
front_by_room size put room = (put + 2 ^ 32 - (size - room)) % 2 ^ 32

-- ## What the ends tell of the frames

-- how many frames the end that puts released, and the end that takes took
abbrev pub put_by : ClientEvent → ℕ
put_by (client.Release count) = count
put_by _ = 0

abbrev pub put_in : List ClientEvent → ℕ
put_in events = fold (λ sofar e. sofar + put_by e) 0 events

abbrev pub taken_by : ServerEvent → ℕ
taken_by (server.Take count) = count
taken_by _ = 0

abbrev pub taken_in : List ServerEvent → ℕ
taken_in events = fold (λ sofar e. sofar + taken_by e) 0 events

-- the lists are those of an end that puts only if there is room by the front last seen, and of an end that takes, and tell of as many frames as were put and taken
pub record AreEnds (p : PipeKept) : Type 0 where
  pub small : p.size ≤ 65536
  pub puts : IsPutList p.size p.puts
  pub takes : IsTakeList p.takes
  pub put_is : put_in p.puts ≡ length p.put
  pub taken_is : taken_in p.takes ≡ length p.taken
