-- How the calls of a server's proxy spell its list, on a block of a shape.
use Rattle.std.specs.Prelude.{◌≡◌, ◌⊎◌, ℕ, ◌+◌, ◌-◌, ◌%◌, ◌/◌, ◌^◌, ◌≤◌, ◌==◌, nat_lt, min, Bool, false, not, ◌&&◌, ◌||◌, if◌then◌else◌, fold, List, [], ◌∷◌, ◌++◌, Option, Some, None}
use Rattle.af_base.specs.declared.event.ServerEvent.{ServerEvent}
use Rattle.af_base.specs.declared.event.ServerEvent.TheVariants as server
use Rattle.af_base.specs.declared.seen.Seen.{Seen}
use Rattle.af_base.specs.declared.seen.Seen.TheVariants as seen
use Rattle.af_model.specs.declared.shape.Shape.{Shape}
use Rattle.af_model.specs.Point.{wrapped}
use Rattle.af_model.specs.Room.{ahead, outside}

-- What a list tells of its server: the flush word, rear and front last seen, whether that flush word was new, the flush word of the last new flush that a look noticed, how many frames were taken and dropped, and the front and rear that shut it
pub record ServerKept : Type 0 where
  pub flush : ℕ
  pub is_new : Bool
  pub noticed : ℕ
  pub rear : ℕ
  pub front : ℕ
  pub consumed : ℕ
  pub shut : Option (ℕ × ℕ)

-- a look notices a new flush: for wrap 0 in any case, and else if rear and front fit the block
abbrev pub is_noticed : Shape → Bool → (rear front : ℕ) → Bool
is_noticed k new rear front = new && (k.wrap == 0 || not (nat_lt k.frames (ahead front rear)))

-- what is known of a server after one event more: a front outside the room shuts the server, unless a new flush is noticed
abbrev pub server_keeps : Shape → ServerKept → ServerEvent → ServerKept
server_keeps k kept (server.SawFlush flush) = record kept { flush = flush; is_new = not (flush == kept.flush) }
server_keeps k kept (server.SawRear rear) = record kept { rear = rear }
server_keeps k kept (server.SawFront front) =
    let noticed = is_noticed k kept.is_new kept.rear front in
    record kept {
      front = front;
      noticed = if noticed then kept.flush else kept.noticed;
      shut = if noticed then None else outside k.frames front kept.rear;
    }
server_keeps k kept (server.Drop to) = record kept { consumed = kept.consumed + ahead kept.front to }
server_keeps k kept (server.Take count) = record kept { consumed = kept.consumed + count }
server_keeps k kept _ = kept

-- what is known of a server before its first event
abbrev pub server_begins : Shape → ServerKept
server_begins k = record { flush = 0; is_new = false; noticed = 0; rear = wrapped k.base; front = wrapped k.base; consumed = 0; shut = None }

-- what a list of events tells of its server
abbrev pub server_kept : Shape → List ServerEvent → ServerKept
server_kept k events = fold (server_keeps k) (server_begins k) events

-- the number of flushes that a flush word tells of
abbrev pub flushes_by : (wrap word : ℕ) → ℕ
flushes_by wrap word = if wrap == 0 then word else word / wrap

-- the word of the position of a flush, by its flush word and the rear seen after it
abbrev pub flush_position : (wrap flush rear : ℕ) → ℕ
flush_position wrap flush rear = wrapped (rear + (2 ^ 32 - ahead flush rear % wrap))

-- how far a word lies past a front, or 0 if it lies before the front
abbrev pub past_front : (front to : ℕ) → ℕ
past_front front to = if nat_lt (ahead front to) (2 ^ 31) then ahead front to else 0

-- how many frames a new flush drops: for wrap 0 all up to the rear seen, and else those up to the position of the flush
abbrev pub dropped_by : (wrap flush rear front : ℕ) → ℕ
dropped_by wrap flush rear front = if wrap == 0 then ahead front rear else past_front front (flush_position wrap flush rear)

-- What a look for `asked` frames shows, by the three words seen and the flush word kept before: a new flush that it notices first, then whether the words fit the block
abbrev pub look_at : Shape → (kept asked flush rear front : ℕ) → Seen
look_at k kept asked flush rear front =
    if is_noticed k (not (flush == kept)) rear front then seen.Flushed (dropped_by k.wrap flush rear front)
    else if nat_lt k.frames (ahead front rear) then seen.Shut front rear
    else if rear == front then seen.Empty
    else seen.Frames (min asked (ahead front rear))

-- what a look drops: so many frames from the front that it saw on, if it noticed a new flush
abbrev pub drops_of : Seen → ℕ → List ServerEvent
drops_of (seen.Flushed dropped) front = server.Drop (wrapped (front + dropped)) ∷ []
drops_of _ front = []

-- the events of a look
abbrev pub look_events : Seen → (flush rear front : ℕ) → List ServerEvent
look_events shown flush rear front = server.SawFlush flush ∷ server.SawRear rear ∷ server.SawFront front ∷ drops_of shown front

-- how many frames a look showed, if it showed some
abbrev pub shown_by : Seen → Option ℕ
shown_by (seen.Frames count) = Some count
shown_by _ = None

-- A server's list is what calls and meetings add, one after the other. `shown` is how many frames may be taken: those that the last call showed, if it was a look that showed some.
-- A server that was shut looks no more
pub data IsServerList (k : Shape) : (shown : Option ℕ) → List ServerEvent → Type 0 where
  begins : IsServerList k None []
  looks : (events : List ServerEvent) (shown : Option ℕ) (asked flush rear front : ℕ) → IsServerList k shown events → (server_kept k events).shut ≡ None → 1 ≤ asked
      → IsServerList k (shown_by (look_at k (server_kept k events).flush asked flush rear front))
      (events ++ look_events (look_at k (server_kept k events).flush asked flush rear front) flush rear front)
  takes : (events : List ServerEvent) (count : ℕ) → IsServerList k (Some count) events → IsServerList k None (events ++ server.Take count ∷ [])
  reads_gains : (events : List ServerEvent) (shown : Option ℕ) (word : ℕ) → IsServerList k shown events → IsServerList k None (events ++ server.SawGain word ∷ [])
  tallies : (events : List ServerEvent) (shown : Option ℕ) (missing : ℕ) → IsServerList k shown events → 1 ≤ missing
      → IsServerList k None (events ++ server.Tally missing ∷ server.SetFlags 1 ∷ [])
  sets_flags : (events : List ServerEvent) (shown : Option ℕ) (bits : ℕ) → IsServerList k shown events → IsServerList k None (events ++ server.SetFlags bits ∷ [])
  sets_status : (events : List ServerEvent) (shown : Option ℕ) (word : ℕ) → IsServerList k shown events → IsServerList k None (events ++ server.SetStatus word ∷ [])
  rests : (events : List ServerEvent) (shown : Option ℕ) → IsServerList k shown events → IsServerList k None events
  meets : (events : List ServerEvent) (shown : Option ℕ) (count : ℕ) → IsServerList k shown events → IsServerList k shown (events ++ server.Learn count ∷ [])

-- A list of which a history shows that it shut nobody: on a block whose wrap is 0 any list, and else one that calls spell
abbrev pub LooksInOrder : Shape → List ServerEvent → Type 0
LooksInOrder k events = (k.wrap ≡ 0) ⊎ ((shown : Option ℕ) × IsServerList k shown events)
