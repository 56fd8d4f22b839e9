-- The frames that a stream block takes are those of its file.
use Rattle.std.proofs.Common.{◌≡◌, ℕ, ◌+◌, ◌-◌, ◌≤◌, List, [], ◌∷◌, ◌++◌, take, drop, length, refl, ap, ◌∙◌, arith}
use Rattle.af_one_turn_run.proofs.Common.{ClientEvent, HandEvent, IsLegal, Moment, ServerEvent, ServerMay, Shape, TrackPoint, after, after_client, after_hand, after_server, by_client, by_hand, by_server, client_of, drop-take, hand_puts, server_put, start, take-take, taken_of, with_taken}
use Rattle.af_base.specs.declared.event.ClientEvent.TheVariants as client
use Rattle.af_base.specs.declared.event.ServerEvent.TheVariants as server
use Rattle.af_base.specs.declared.event.HandEvent.TheVariants as hand
use Rattle.af_one_turn_run.proofs.TakenWords.{from_base}

-- ## Positions

client_raises : (p : TrackPoint) (e : ClientEvent) → p.released ≤ (after_client p e).released
client_raises p (client.Release count) = omega arith
client_raises p client.Flush = omega arith
client_raises p (client.SetGain word) = omega arith
client_raises p (client.ClearFlags old) = omega arith
client_raises p e = omega arith

client_rear : (p : TrackPoint) (e : ClientEvent) → (after_client p e).rear_seen ≡ p.rear_seen
client_rear p (client.Release count) = refl
client_rear p client.Flush = refl
client_rear p (client.SetGain word) = refl
client_rear p (client.ClearFlags old) = refl
client_rear p e = refl

server_rear : (p : TrackPoint) (e : ServerEvent) → p.rear_seen ≤ p.released → (after_server p e).rear_seen ≤ (after_server p e).released
server_rear p (server.SawFlush flush) h = h
server_rear p (server.SawRear rear) h = omega arith
server_rear p (server.Drop to) h = h
server_rear p (server.Take count) h = h
server_rear p (server.Tally missing) h = h
server_rear p (server.SetFlags bits) h = h
server_rear p (server.SetStatus word) h = h
server_rear p e h = h

hand_rear : (p : TrackPoint) (e : HandEvent) → (after_hand p e).rear_seen ≡ p.rear_seen
hand_rear p (hand.SetFlags bits) = refl
hand_rear p (hand.Met client) = refl

-- a rear seen lies within what was released
rear_within : (k : Shape) (told : List Moment) → (after (start k) told).rear_seen ≤ (after (start k) told).released
rear_within k [] = omega arith
rear_within k (by_client e ∷ told) = let p = after (start k) told in let r = rear_within k told in let s = client_rear p e in let m = client_raises p e in omega (arith, r, s, m)
rear_within k (by_server e ∷ told) = server_rear (after (start k) told) e (rear_within k told)
rear_within k (by_hand e ∷ told) = let p = after (start k) told in let r = rear_within k told in let s = hand_rear p e in let m = hand_puts p e in omega (arith, r, s, m)

-- ## What is taken

of_file : (c count m : ℕ) (file : List ℕ) → c + count ≤ m → take count (drop c (take m file)) ≡ take count (drop c file)
of_file c count m file few =
    ap (λ n. take count (drop c (take n file))) (let e : m ≡ c + (m - c) = omega (arith, few) in e) ∙ ap (take count) (drop-take c (m - c) file) ∙ take-take count (m - c) (drop c file) (omega (arith, few))

-- the first words of a file, so many as were released, give what the whole file gives
pub taken_of_file : (k : Shape) (file : List ℕ) (m : ℕ) (told : List Moment) → IsLegal (start k) told → (after (start k) told).released ≤ k.base + m → taken_of (take m file) k told ≡ taken_of file k told
taken_of_file k file m [] l few = refl
taken_of_file k file m (by_client e ∷ told) l few = let r = client_raises (after (start k) told) e in taken_of_file k file m told l.1 (omega (arith, r, few))
taken_of_file k file m (by_hand e ∷ told) l few = let r = hand_puts (after (start k) told) e in taken_of_file k file m told l.1 (omega (arith, r, few))
taken_of_file k file m (by_server e ∷ told) l few =
    let p = after (start k) told in
    let r = server_put p e in
    let within : p.released ≤ k.base + m = omega (arith, r, few) in
    by_event e l.0 within ∙ ap (λ t. with_taken file k.base p t e) (taken_of_file k file m told l.1 within)
  where
    by_event : (e : ServerEvent) → ServerMay (after (start k) told) (length (client_of told)) e → (after (start k) told).released ≤ k.base + m → with_taken (take m file) k.base (after (start k) told) (taken_of (take m file) k told) e ≡ with_taken file k.base (after (start k) told) (taken_of (take m file) k told) e
    by_event (server.Take count) may within =
        let b = (from_base k told).consumed in
        let w = rear_within k told in
        let c = may in
        ap (λ ws. taken_of (take m file) k told ++ ws) (of_file ((after (start k) told).consumed - k.base) count m file (omega (arith, b, w, c, within)))
    by_event e may within = refl
