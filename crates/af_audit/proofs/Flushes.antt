-- In a history the server's looks see ever more flushes: each look that notices a new flush saw more than any before it.
use Rattle.std.proofs.Common.{◌≡◌, ◌≢◌, ℕ, ◌+◌, ◌*◌, ◌/◌, ◌%◌, ◌<◌, ◌≤◌, ◌==◌, if◌then◌else◌, Bool, true, false, List, [], ◌∷◌, ◌++◌, refl, sym, ap, ◌∙◌, subst, arith, eqb-true}
use Rattle.af_audit.proofs.Common.{ClientEvent, HandEvent, IsLegal, Moment, ServerEvent, ServerKept, ServerMay, Shape, TrackPoint, after, after_client, after_hand, after_server, by_client, by_hand, by_server, div-mul-add, flush_number, flushes_by, fold-append, hand_flush, mod-eq_of_lt, mod-lt, mul-le-mul_left, no_flush, none_as, positive_is, server_begins, server_keeps, server_kept, server_of, start, wrapped}
use Rattle.af_base.specs.declared.event.ClientEvent.TheVariants as client
use Rattle.af_base.specs.declared.event.ServerEvent.TheVariants as server
use Rattle.af_base.specs.declared.event.HandEvent.TheVariants as hand
use Rattle.af_audit.proofs.Words.{sees_more, most_seen}

-- ## Flush words

-- a flush word says how many flushes there were, if they are few
pub flushes_told : (wrap flushes position : ℕ) → wrap ≤ 32768 → flushes ≤ 65536 → flushes_by wrap (flush_number wrap flushes position) ≡ flushes
flushes_told wrap flushes position narrow few = by_wrap (wrap == 0) refl
  where
    by_wrap : (b : Bool) → (wrap == 0) ≡ b → (if b then (if b then flushes else wrapped (flushes * wrap + position % wrap)) else (if b then flushes else wrapped (flushes * wrap + position % wrap)) / wrap) ≡ flushes
    by_wrap true e = refl
    by_wrap false e =
        let inside : position % wrap < wrap = mod-lt position (positive_is wrap e) in
        let small : flushes * wrap ≤ flushes * 32768 = mul-le-mul_left flushes narrow in
        let whole : wrapped (flushes * wrap + position % wrap) ≡ flushes * wrap + position % wrap = mod-eq_of_lt (omega (arith, inside, small, few, narrow)) in
        ap (λ n. n / wrap) whole ∙ div-mul-add flushes wrap (position % wrap) inside

-- ## What was seen

-- what a list says of its server's looks is what the point says: the flush word seen last, and the most flushes seen
record FlushesStand (k : Shape) (p : TrackPoint) (flush most : ℕ) : Type 0 where
  wrap_is : p.wrap ≡ k.wrap
  low : p.flush_seen ≤ p.flushes
  word : flush ≡ flush_number k.wrap p.flush_seen p.drop_to
  same : p.flush_seen ≡ p.flushes → p.drop_to ≡ p.flush_at
  most_is : most ≡ p.flush_seen

client_stands : (k : Shape) (p : TrackPoint) (flush most : ℕ) (e : ClientEvent) → FlushesStand k p flush most → FlushesStand k (after_client p e) flush most
client_stands k p flush most (client.Release count) s = record { wrap_is = s.wrap_is; low = s.low; word = s.word; same = s.same; most_is = s.most_is }
client_stands k p flush most client.Flush s = record { wrap_is = s.wrap_is; low = (let a = s.low in omega (arith, a)); word = s.word; same = (λ e. let a = s.low in absurd (omega (arith, a, e))); most_is = s.most_is }
client_stands k p flush most (client.SetGain word) s = record { wrap_is = s.wrap_is; low = s.low; word = s.word; same = s.same; most_is = s.most_is }
client_stands k p flush most (client.ClearFlags old) s = record { wrap_is = s.wrap_is; low = s.low; word = s.word; same = s.same; most_is = s.most_is }
client_stands k p flush most _ s = s

hand_stands : (k : Shape) (p : TrackPoint) (flush most : ℕ) (e : HandEvent) → FlushesStand k p flush most → FlushesStand k (after_hand p e) flush most
hand_stands k p flush most (hand.SetFlags bits) s = record { wrap_is = s.wrap_is; low = s.low; word = s.word; same = s.same; most_is = s.most_is }
hand_stands k p flush most (hand.Met count) s = s

-- an event of a client takes no flushes back
more_flushes : (p : TrackPoint) (e : ClientEvent) → p.flushes ≤ (after_client p e).flushes
more_flushes p (client.Release count) = omega arith
more_flushes p _ = omega arith

pub flushes_rise : (p : TrackPoint) (late early : List Moment) → (after p early).flushes ≤ (after p (late ++ early)).flushes
flushes_rise p [] early = omega arith
flushes_rise p (by_client e ∷ late) early = let a = flushes_rise p late early in let b = more_flushes (after p (late ++ early)) e in omega (arith, a, b)
flushes_rise p (by_server e ∷ late) early = let a = flushes_rise p late early in let b = no_flush (after p (late ++ early)) e in omega (arith, a, b)
flushes_rise p (by_hand e ∷ late) early = let a = flushes_rise p late early in let b = hand_flush (after p (late ++ early)) e in omega (arith, a, b)

module _ (k : Shape) (narrow : k.wrap ≤ 32768) where
  server_stands : (p : TrackPoint) (kept : ServerKept) (most others : ℕ) (e : ServerEvent) → p.flushes ≤ 65536 → ServerMay p others e → FlushesStand k p kept.flush most → FlushesStand k (after_server p e) (server_keeps k kept e).flush (sees_more k most e)
  server_stands p kept most others (server.SawGain word) few may s = s
  server_stands p kept most others (server.SawFlush flush) few may s =
      let word : flush ≡ flush_number k.wrap p.flushes p.flush_at = may ∙ ap (λ w. flush_number w p.flushes p.flush_at) s.wrap_is in
      let count : flushes_by k.wrap flush ≡ p.flushes = ap (flushes_by k.wrap) word ∙ flushes_told k.wrap p.flushes p.flush_at narrow few in
      record { wrap_is = s.wrap_is; low = omega arith; word = word; same = (λ e. refl); most_is = (let a = s.low in let m = s.most_is in omega (arith, a, m, count)) }
  server_stands p kept most others (server.SawRear rear) few may s = record { wrap_is = s.wrap_is; low = s.low; word = s.word; same = s.same; most_is = s.most_is }
  server_stands p kept most others (server.SawFront front) few may s = record { wrap_is = s.wrap_is; low = s.low; word = s.word; same = s.same; most_is = s.most_is }
  server_stands p kept most others (server.Drop to) few may s = record { wrap_is = s.wrap_is; low = s.low; word = s.word; same = s.same; most_is = s.most_is }
  server_stands p kept most others (server.Take count) few may s = record { wrap_is = s.wrap_is; low = s.low; word = s.word; same = s.same; most_is = s.most_is }
  server_stands p kept most others (server.Tally missing) few may s = record { wrap_is = s.wrap_is; low = s.low; word = s.word; same = s.same; most_is = s.most_is }
  server_stands p kept most others (server.SetFlags bits) few may s = record { wrap_is = s.wrap_is; low = s.low; word = s.word; same = s.same; most_is = s.most_is }
  server_stands p kept most others (server.SetStatus word) few may s = record { wrap_is = s.wrap_is; low = s.low; word = s.word; same = s.same; most_is = s.most_is }
  server_stands p kept most others (server.Learn count) few may s = s

  stands : (order : List Moment) → IsLegal (start k) order → (after (start k) order).flushes ≤ 65536 → FlushesStand k (after (start k) order) (server_kept k (server_of order)).flush (most_seen k (server_of order))
  stands [] h few = record { wrap_is = refl; low = omega arith; word = none_as k.wrap (k.wrap == 0) refl; same = (λ e. refl); most_is = refl }
  stands (by_client e ∷ order) h few = client_stands k (after (start k) order) _ _ e (stands order h.1 (let m = more_flushes (after (start k) order) e in omega (arith, m, few)))
  stands (by_server e ∷ order) h few =
      let less : (after (start k) order).flushes ≤ 65536 = let m = no_flush (after (start k) order) e in omega (arith, m, few) in
      let now = server_stands (after (start k) order) (server_kept k (server_of order)) (most_seen k (server_of order)) _ e less h.0 (stands order h.1 less) in
      subst (λ (x : ServerKept × ℕ). FlushesStand k (after (start k) (by_server e ∷ order)) x.0.flush x.1)
      (λ i. (sym (fold-append (server_keeps k) (server_begins k) (server_of order) (e ∷ [])) i, sym (fold-append (sees_more k) 0 (server_of order) (e ∷ [])) i)) now
  stands (by_hand e ∷ order) h few = hand_stands k (after (start k) order) _ _ e (stands order h.1 (let m = hand_flush (after (start k) order) e in omega (arith, m, few)))

  -- a look that sees another flush word than the one before saw more flushes than any look before it
  pub new_above : (order : List Moment) (flush : ℕ) → IsLegal (start k) (by_server (server.SawFlush flush) ∷ order) → (after (start k) order).flushes ≤ 65536 → flush ≢ (server_kept k (server_of order)).flush
      → most_seen k (server_of order) < flushes_by k.wrap flush
  new_above order flush h few new =
      let p : TrackPoint = after (start k) order in
      let s = stands order h.1 few in
      let word : flush ≡ flush_number k.wrap p.flushes p.flush_at = h.0 ∙ ap (λ w. flush_number w p.flushes p.flush_at) s.wrap_is in
      let count : flushes_by k.wrap flush ≡ p.flushes = ap (flushes_by k.wrap) word ∙ flushes_told k.wrap p.flushes p.flush_at narrow few in
      let another : p.flush_seen ≢ p.flushes = λ e. new (word ∙ sym (s.word ∙ ap (λ (x : ℕ × ℕ). flush_number k.wrap x.0 x.1) (λ i. (e i, s.same e i)))) in
      below p.flush_seen p.flushes s.low another (most_seen k (server_of order)) s.most_is (flushes_by k.wrap flush) count
    where
      below : (a b : ℕ) → a ≤ b → a ≢ b → (m : ℕ) → m ≡ a → (c : ℕ) → c ≡ b → m < c
      below a b low other m is c same = by_test (a == b) refl
        where
          by_test : (t : Bool) → (a == b) ≡ t → m < c
          by_test true e = absurd (other (eqb-true a b e))
          by_test false e = omega (arith, low, is, same)
