-- The tests of the search say what the definition says.
use Rattle.std.proofs.Common.{◌≡◌, ℕ, ◌+◌, Bool, true, false, cond, ◌==◌, refl}
use Rattle.af_merges.proofs.Common.{ClientEvent, ClientMay, ServerEvent, ServerMay, TrackPoint, drop_end, equal_is, flush_word, is_equal, is_within, within_is, wrapped}
use Rattle.std.specs.Prelude.{MatchBool, bit_and}
use Rattle.af_base.specs.declared.event.ClientEvent.TheVariants as client
use Rattle.af_base.specs.declared.event.ServerEvent.TheVariants as server
use Rattle.af_merges.specs.MergeSteps.{client_may, server_may}

flags_are : (b : Bool) (x y u v : ℕ) → cond b (x == y) (u == v) ≡ true → MatchBool b (x ≡ y) (u ≡ v)
flags_are true x y u v h = equal_is x y h
flags_are false x y u v h = equal_is u v h

are_flags : (b : Bool) (x y u v : ℕ) → MatchBool b (x ≡ y) (u ≡ v) → cond b (x == y) (u == v) ≡ true
are_flags true x y u v h = is_equal x y h
are_flags false x y u v h = is_equal u v h

pub client_may-legal : (p : TrackPoint) (n : ℕ) (e : ClientEvent) → client_may p n e ≡ true → ClientMay p n e
client_may-legal p n (client.ClearFlags old) h = equal_is old p.flags h
client_may-legal p n (client.SawFlags flags) h = flags_are (bit_and flags 4 == 0) (bit_and p.flags 4) 0 flags p.flags h
client_may-legal p n (client.SawFront front) h = equal_is front (wrapped p.consumed) h
client_may-legal p n (client.SawStatus word) h = equal_is word p.status h
client_may-legal p n (client.Poke word value) h = cc
client_may-legal p n (client.Learn count) h = within_is count n h
client_may-legal p n _ h = tt

pub client_legal-may : (p : TrackPoint) (n : ℕ) (e : ClientEvent) → ClientMay p n e → client_may p n e ≡ true
client_legal-may p n (client.ClearFlags old) h = is_equal old p.flags h
client_legal-may p n (client.SawFlags flags) h = are_flags (bit_and flags 4 == 0) (bit_and p.flags 4) 0 flags p.flags h
client_legal-may p n (client.SawFront front) h = is_equal front (wrapped p.consumed) h
client_legal-may p n (client.SawStatus word) h = is_equal word p.status h
client_legal-may p n (client.Poke word value) h = absurd h
client_legal-may p n (client.Learn count) h = is_within count n h
client_legal-may p n _ h = refl

pub server_may-legal : (p : TrackPoint) (n : ℕ) (e : ServerEvent) → server_may p n e ≡ true → ServerMay p n e
server_may-legal p n (server.SawGain word) h = equal_is word p.gains h
server_may-legal p n (server.SawFlush flush) h = equal_is flush (flush_word p) h
server_may-legal p n (server.SawRear rear) h = equal_is rear (wrapped p.released) h
server_may-legal p n (server.SawFront front) h = equal_is front (wrapped p.consumed) h
server_may-legal p n (server.Drop to) h = equal_is to (wrapped (drop_end p)) h
server_may-legal p n (server.Take count) h = within_is (p.consumed + count) p.rear_seen h
server_may-legal p n (server.Learn count) h = within_is count n h
server_may-legal p n _ h = tt

pub server_legal-may : (p : TrackPoint) (n : ℕ) (e : ServerEvent) → ServerMay p n e → server_may p n e ≡ true
server_legal-may p n (server.SawGain word) h = is_equal word p.gains h
server_legal-may p n (server.SawFlush flush) h = is_equal flush (flush_word p) h
server_legal-may p n (server.SawRear rear) h = is_equal rear (wrapped p.released) h
server_legal-may p n (server.SawFront front) h = is_equal front (wrapped p.consumed) h
server_legal-may p n (server.Drop to) h = is_equal to (wrapped (drop_end p)) h
server_legal-may p n (server.Take count) h = is_within (p.consumed + count) p.rear_seen h
server_legal-may p n (server.Learn count) h = is_within count n h
server_legal-may p n _ h = refl
