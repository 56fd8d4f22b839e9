-- The point of a block, and which event may follow it. Positions count from the base on and never wrap.
use Rattle.std.specs.Prelude.{◌≡◌, ℕ, ◌+◌, ◌*◌, ◌%◌, ◌^◌, ◌≤◌, ◌==◌, if◌then◌else◌, max, MatchBool, bit_and, bit_or}
use Rattle.af_base.specs.declared.event.ClientEvent.{ClientEvent}
use Rattle.af_base.specs.declared.event.ClientEvent.TheVariants as client
use Rattle.af_base.specs.declared.event.ServerEvent.{ServerEvent}
use Rattle.af_base.specs.declared.event.ServerEvent.TheVariants as server
use Rattle.af_base.specs.declared.event.HandEvent.{HandEvent}
use Rattle.af_base.specs.declared.event.HandEvent.TheVariants as hand
use Rattle.af_model.specs.declared.point.TrackPoint.{TrackPoint}
use Rattle.af_model.specs.declared.shape.Shape.{Shape}

-- the word of a number: its low 32 bits
abbrev pub wrapped : ℕ → ℕ
wrapped n = n % 2 ^ 32

-- the point before any event, on a block of this shape
abbrev pub start : Shape → TrackPoint
start k =
    record {
      released = k.base;
      consumed = k.base;
      flushes = 0;
      flush_seen = 0;
      rear_seen = k.base;
      gains = 268439552;
      flags = 0;
      status = 0;
      underruns = 0;
      flush_at = 0;
      drop_to = 0;
      wrap = k.wrap;
    }

-- The word that tells of so many flushes, of which the last was asked for at a position: for wrap 0 their number, and else so many wraps with the place of that position in a wrap
abbrev pub flush_number : (wrap flushes position : ℕ) → ℕ
flush_number wrap flushes position = if wrap == 0 then flushes else wrapped (flushes * wrap + position % wrap)

-- the flush word at a point
abbrev pub flush_word : TrackPoint → ℕ
flush_word p = flush_number p.wrap p.flushes p.flush_at

-- The position up to which a drop consumes: for wrap 0 all that the last rear showed, and else what was released before the flush that the server saw last, if that lies past what was consumed
abbrev pub drop_end : TrackPoint → ℕ
drop_end p = if p.wrap == 0 then p.rear_seen else max p.drop_to p.consumed

-- which event of the client is legal at a point. `others` is the number of the server's events before
abbrev pub ClientMay : TrackPoint → ℕ → ClientEvent → Type 0
ClientMay p others (client.Release count) = Unit {0}
ClientMay p others client.Flush = Unit {0}
ClientMay p others (client.SetGain word) = Unit {0}
ClientMay p others (client.ClearFlags old) = old ≡ p.flags
ClientMay p others (client.SawFlags flags) = MatchBool (bit_and flags 4 == 0) (bit_and p.flags 4 ≡ 0) (flags ≡ p.flags)
ClientMay p others (client.SawFront front) = front ≡ wrapped p.consumed
ClientMay p others (client.SawStatus word) = word ≡ p.status
ClientMay p others (client.Poke word value) = ⊥
ClientMay p others (client.Learn count) = count ≤ others

-- which event of the server is legal at a point. `others` is the number of the client's events before
abbrev pub ServerMay : TrackPoint → ℕ → ServerEvent → Type 0
ServerMay p others (server.SawGain word) = word ≡ p.gains
ServerMay p others (server.SawFlush flush) = flush ≡ flush_word p
ServerMay p others (server.SawRear rear) = rear ≡ wrapped p.released
ServerMay p others (server.SawFront front) = front ≡ wrapped p.consumed
ServerMay p others (server.Drop to) = to ≡ wrapped (drop_end p)
ServerMay p others (server.Take count) = p.consumed + count ≤ p.rear_seen
ServerMay p others (server.Tally missing) = Unit {0}
ServerMay p others (server.SetFlags bits) = Unit {0}
ServerMay p others (server.SetStatus word) = Unit {0}
ServerMay p others (server.Learn count) = count ≤ others

-- which event of the hand is legal. `clients` is the number of the client's events before, `met` the most that an earlier meeting of the hand named, and `at` how many stand before the hand's last event.
-- What was met stands before the hand's later events, and the hand's earlier events stand before what the client did after the meeting
abbrev pub HandMay : ℕ → ℕ → ℕ → HandEvent → Type 0
HandMay clients met at (hand.SetFlags bits) = met ≤ clients
HandMay clients met at (hand.Met client) = (met ≤ clients) × (at ≤ client)

-- the point after an event of the client; an event without a line here leaves it as it is
abbrev pub after_client : TrackPoint → ClientEvent → TrackPoint
after_client p (client.Release count) = record p { released = p.released + count }
after_client p client.Flush = record p { flushes = p.flushes + 1; flush_at = p.released }
after_client p (client.SetGain word) = record p { gains = word }
after_client p (client.ClearFlags old) = record p { flags = bit_and p.flags 4294967287 }
after_client p _ = p

abbrev pub after_server : TrackPoint → ServerEvent → TrackPoint
after_server p (server.SawFlush flush) = record p { flush_seen = p.flushes; drop_to = p.flush_at }
after_server p (server.SawRear rear) = record p { rear_seen = p.released }
after_server p (server.Drop to) = record p { consumed = drop_end p }
after_server p (server.Take count) = record p { consumed = p.consumed + count }
after_server p (server.Tally missing) = record p { underruns = wrapped (p.underruns + missing) }
after_server p (server.SetFlags bits) = record p { flags = bit_or p.flags bits }
after_server p (server.SetStatus word) = record p { status = word }
after_server p _ = p

abbrev pub after_hand : TrackPoint → HandEvent → TrackPoint
after_hand p (hand.SetFlags bits) = record p { flags = bit_or p.flags bits }
after_hand p (hand.Met client) = p
