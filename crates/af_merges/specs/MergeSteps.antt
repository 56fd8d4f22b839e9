-- One event as a step of the search: the test whether it is legal at a point, and the point after it.
use Rattle.std.specs.Prelude.{◌≡◌, ◌⊎◌, ℕ, ◌+◌, ◌-◌, ◌^◌, ◌<◌, ◌≤◌, Bool, true, false, Option, Some, None, ◌==◌, nat_le, bit_and, if◌then◌else◌}
use Rattle.af_base.specs.declared.event.ClientEvent.{ClientEvent}
use Rattle.af_base.specs.declared.event.ClientEvent.TheVariants as client
use Rattle.af_base.specs.declared.event.ServerEvent.{ServerEvent}
use Rattle.af_base.specs.declared.event.ServerEvent.TheVariants as server
use Rattle.af_model.specs.declared.point.TrackPoint.{TrackPoint}
use Rattle.af_model.specs.Point.{wrapped, flush_word, drop_end, after_client, after_server}

-- `ClientMay` as a test
abbrev pub client_may : TrackPoint → ℕ → ClientEvent → Bool
client_may p others (client.Release count) = true
client_may p others client.Flush = true
client_may p others (client.SetGain word) = true
client_may p others (client.ClearFlags old) = old == p.flags
client_may p others (client.SawFlags flags) = if bit_and flags 4 == 0 then bit_and p.flags 4 == 0 else flags == p.flags
client_may p others (client.SawFront front) = front == wrapped p.consumed
client_may p others (client.SawStatus word) = word == p.status
client_may p others (client.Poke word value) = false
client_may p others (client.Learn count) = nat_le count others

-- `ServerMay` as a test
abbrev pub server_may : TrackPoint → ℕ → ServerEvent → Bool
server_may p others (server.SawGain word) = word == p.gains
server_may p others (server.SawFlush flush) = flush == flush_word p
server_may p others (server.SawRear rear) = rear == wrapped p.released
server_may p others (server.SawFront front) = front == wrapped p.consumed
server_may p others (server.Drop to) = to == wrapped (drop_end p)
server_may p others (server.Take count) = nat_le (p.consumed + count) p.rear_seen
server_may p others (server.Tally missing) = true
server_may p others (server.SetFlags bits) = true
server_may p others (server.SetStatus word) = true
server_may p others (server.Learn count) = nat_le count others

-- the point p, if the test passes
abbrev pub when : Bool → TrackPoint → Option TrackPoint
when legal p = if legal then Some p else None

-- the point after a client's event, if it is legal
abbrev pub client_step : TrackPoint → ℕ → ClientEvent → Option TrackPoint
client_step p others e = when (client_may p others e) (after_client p e)

abbrev pub server_step : TrackPoint → ℕ → ServerEvent → Option TrackPoint
server_step p others e = when (server_may p others e) (after_server p e)

-- one more event stays within the types
pub record HasRoom (p : TrackPoint) : Type 0 where
  pub released : p.released < 2 ^ 63
  pub consumed : p.consumed < 2 ^ 63
  pub flushes : p.flushes < 2 ^ 32 - 1

-- how far one event of the client may lead
pub record ClientGrows (p q : TrackPoint) : Type 0 where
  pub released : q.released < p.released + 2 ^ 32
  pub flushes : q.flushes ≤ p.flushes + 1
  pub consumed : q.consumed ≡ p.consumed
  pub rear_seen : q.rear_seen ≡ p.rear_seen
  pub flush_at : (q.flush_at ≡ p.flush_at) ⊎ (q.flush_at ≡ p.released)
  pub drop_to : q.drop_to ≡ p.drop_to

-- how far one event of the server may lead
pub record ServerGrows (p q : TrackPoint) : Type 0 where
  pub released : q.released ≡ p.released
  pub flushes : q.flushes ≡ p.flushes
  pub consumed : (q.consumed ≤ p.consumed) ⊎ (q.consumed ≤ p.rear_seen) ⊎ (q.consumed ≤ p.drop_to)
  pub rear_seen : (q.rear_seen ≡ p.rear_seen) ⊎ (q.rear_seen ≡ p.released)
  pub flush_at : q.flush_at ≡ p.flush_at
  pub drop_to : (q.drop_to ≡ p.drop_to) ⊎ (q.drop_to ≡ p.flush_at)
