-- From turns that lead through three lists to a legal order of them.
use Rattle.std.proofs.Common.{◌≡◌, ℕ, zero, suc, ◌+◌, ◌<◌, ◌≤◌, List, [], ◌∷◌, ◌++◌, length, take, drop, Some, true, ◌&&◌, ◌||◌, nat_le, refl, ap, ◌∙◌, sym, subst, arith}
use Rattle.af_merges.proofs.Common.{ClientEvent, ClientMay, HandEvent, HandMay, IsLegal, Moment, ServerEvent, ServerMay, TrackPoint, after, after_client, after_hand, after_server, and_parts, both_true, by_client, by_hand, by_server, client_of, clients_at, cond_some, hand_of, met_in, nat_tests, option_and_then, option_and_then_some, same_Some, server_of, slice_get, slice_get_within, take-append-drop, take-length, take_step, within_is}
use Rattle.af_base.specs.declared.event.HandEvent.TheVariants as hand
use Rattle.af_merges.specs.declared.search.Stage.{Stage}
use Rattle.af_merges.specs.Merges.{HasLegalOrder}
use Rattle.af_merges.specs.MergeSteps.{client_step, server_step}
use Rattle.af_merges.specs.Walks.{walk}
use Rattle.af_merges.specs.Stages.{Lists, Who, Client, Server, Hand, move, kept, keeps_event, keeps_mets, with_client, with_server, with_hand, begin, HasWalk}
use Rattle.af_merges.specs.MergePieces.{names_at_least, knows_no_more}
use Rattle.af_merges.proofs.MayTests.{client_may-legal, server_may-legal}
use Rattle.af_merges.proofs.MetsInOrder.{met-known, names-zero}
use Rattle.af_merges.proofs.Extends.{keeps_first, keeps-front, knows-kept}

-- the hand's event at a place, and those past it
names-at : (hs : List HandEvent) (n k known : ℕ) → slice_get hs k ≡ Some (hand.Met known) → names_at_least n (drop k hs) ≡ true → n ≤ known
names-at [] n k known e h = cc
names-at (x ∷ hs) n (suc k) known e h = names-at hs n k known e h
names-at (hand.SetFlags bits ∷ hs) n zero known e h = cc
names-at (hand.Met met ∷ hs) n zero known e h =
    let same : met ≡ known = cc in
    subst (λ m. n ≤ m) same (within_is n met (and_parts (nat_le n met) (names_at_least n hs) h).0)

ahead-met : (known place i k : ℕ) → k < place → ((nat_le k (place + 1) || nat_le known i) && (nat_le i known || nat_le place k)) ≡ true → nat_le i known ≡ true
ahead-met known place i k h e = grind (arith, nat_tests)

names-ahead : (hs : List HandEvent) (place i k : ℕ) → k < place → keeps_mets hs place i k ≡ true → names_at_least i hs ≡ true
names-ahead [] place i k h e = refl
names-ahead (hand.SetFlags bits ∷ hs) place i k h e = names-ahead hs (place + 1) i k (omega arith) e
names-ahead (hand.Met known ∷ hs) place i k h e =
    let both = and_parts (keeps_event (hand.Met known) place i k) (keeps_mets hs (place + 1) i k) e in
    both_true (nat_le i known) (names_at_least i hs) (ahead-met known place i k h both.0) (names-ahead hs (place + 1) i k (omega arith) both.1)

-- if each Met is kept, those past the hand's next event name no fewer client events than have stood
names-past : (hs : List HandEvent) (place i k d : ℕ) → place + d ≡ k + 1 → keeps_mets hs place i k ≡ true → names_at_least i (drop d hs) ≡ true
names-past hs place i k zero e h = names-ahead hs place i k (omega arith) h
names-past [] place i k (suc d) e h = refl
names-past (x ∷ hs) place i k (suc d) e h =
    names-past hs (place + 1) i k d (omega arith) (and_parts (keeps_event x place i k) (keeps_mets hs (place + 1) i k) h).1

hand_may : (clients met at : ℕ) (e : HandEvent) → met ≤ clients → ((known : ℕ) → e ≡ hand.Met known → at ≤ known) → HandMay clients met at e
hand_may clients met at (hand.SetFlags bits) m a = m
hand_may clients met at (hand.Met known) m a = (m, a known refl)

-- an order of what has stood at a stage
record HasReached (l : Lists) (p : TrackPoint) (m : Stage) : Type 0 where
  pub order : List Moment
  pub legal : IsLegal p order
  pub point : after p order ≡ m.point
  pub client : client_of order ≡ take m.clients l.client
  pub server : server_of order ≡ take m.servers l.server
  pub hand : hand_of order ≡ take m.hands l.hand
  pub clients : m.clients ≤ length l.client
  pub servers : m.servers ≤ length l.server
  pub hands : m.hands ≤ length l.hand
  pub kept : keeps_mets l.hand 0 m.clients m.hands ≡ true
  pub names : names_at_least (clients_at order) (drop m.hands l.hand) ≡ true

length_take : {X : Type 0} (n : ℕ) (xs : List X) → n ≤ length xs → length (take n xs) ≡ n
length_take zero xs h = refl
length_take (suc n) [] h = absurd (omega arith)
length_take (suc n) (x ∷ xs) h = let r = length_take n xs (omega arith) in omega arith

client_moved : (e : ClientEvent) (p q : TrackPoint) (n k : ℕ) → p ≡ q → n ≡ k → ClientMay q k e → ClientMay p n e
client_moved e p q n k a b may = subst (λ p. ClientMay p n e) (sym a) (subst (λ n. ClientMay q n e) (sym b) may)

server_moved : (e : ServerEvent) (p q : TrackPoint) (n k : ℕ) → p ≡ q → n ≡ k → ServerMay q k e → ServerMay p n e
server_moved e p q n k a b may = subst (λ p. ServerMay p n e) (sym a) (subst (λ n. ServerMay q n e) (sym b) may)

stood : (l : Lists) (p : TrackPoint) (m : Stage) (s : HasReached l p m) → (length (client_of s.order) ≡ m.clients) × (length (server_of s.order) ≡ m.servers)
stood l p m s = (ap length s.client ∙ length_take m.clients l.client s.clients, ap length s.server ∙ length_take m.servers l.server s.servers)

stands : (l : Lists) (p : TrackPoint) (w : Who) (m n : Stage) → HasReached l p m → move l w m ≡ Some n → HasReached l p n
stands l p Client m n s e =
    option_and_then_some (λ e. option_and_then (λ q. kept l.hand (with_client m q)) (client_step m.point m.servers e)) (slice_get l.client m.clients) n e
    (λ v at f. option_and_then_some (λ q. kept l.hand (with_client m q)) (client_step m.point m.servers v) n f
    (λ q is g.
    let was = cond_some _ _ _ g in
    let here = cond_some _ _ _ is in
    let in_range : m.clients < length l.client = slice_get_within l.client m.clients v at in
    let may : ClientMay m.point m.servers v = client_may-legal m.point m.servers v here.0 in
    subst (HasReached l p) was.1 (record {
      order = by_client v ∷ s.order;
      legal = (client_moved v _ _ _ _ s.point (stood l p m s).1 may, s.legal);
      point = ap (λ x. after_client x v) s.point ∙ here.1;
      client = ap (λ xs. xs ++ v ∷ []) s.client ∙ sym (take_step l.client m.clients v at);
      server = s.server;
      hand = s.hand;
      clients = omega arith;
      servers = s.servers;
      hands = s.hands;
      kept = was.0;
      names = s.names;
    })))
stands l p Server m n s e =
    option_and_then_some (λ e. option_and_then (λ q. Some (with_server m q)) (server_step m.point m.clients e)) (slice_get l.server m.servers) n e
    (λ v at f. option_and_then_some (λ q. Some (with_server m q)) (server_step m.point m.clients v) n f
    (λ q is g.
    let here = cond_some _ _ _ is in
    let in_range : m.servers < length l.server = slice_get_within l.server m.servers v at in
    let may : ServerMay m.point m.clients v = server_may-legal m.point m.clients v here.0 in
    subst (HasReached l p) (same_Some _ _ g) (record {
      order = by_server v ∷ s.order;
      legal = (server_moved v _ _ _ _ s.point (stood l p m s).0 may, s.legal);
      point = ap (λ x. after_server x v) s.point ∙ here.1;
      client = s.client;
      server = ap (λ xs. xs ++ v ∷ []) s.server ∙ sym (take_step l.server m.servers v at);
      hand = s.hand;
      clients = s.clients;
      servers = omega arith;
      hands = s.hands;
      kept = s.kept;
      names = s.names;
    })))
stands l p Hand m n s e =
    option_and_then_some (λ e. kept l.hand (with_hand m (after_hand m.point e))) (slice_get l.hand m.hands) n e
    (λ v at g.
    let was = cond_some _ _ _ g in
    let in_range : m.hands < length l.hand = slice_get_within l.hand m.hands v at in
    let split : l.hand ≡ take m.hands l.hand ++ drop m.hands l.hand = sym (take-append-drop m.hands l.hand) in
    let front : keeps_mets (take m.hands l.hand) 0 m.clients (m.hands + 1) ≡ true =
    keeps-front (take m.hands l.hand) (drop m.hands l.hand) 0 m.clients (m.hands + 1) (subst (λ (xs : List HandEvent). keeps_mets xs 0 m.clients (m.hands + 1) ≡ true) split was.0) in
    let long : length (take m.hands l.hand) ≡ m.hands = length_take m.hands l.hand s.hands in
    let knows : knows_no_more (hand_of s.order) m.clients ≡ true =
    ap (λ (xs : List HandEvent). knows_no_more xs m.clients) s.hand ∙ knows-kept (take m.hands l.hand) 0 m.clients m.hands (omega arith) front in
    let all : length (client_of s.order) ≡ m.clients = (stood l p m s).0 in
    let met : met_in s.order ≤ length (client_of s.order) = met-known s.order _ (subst (λ i. knows_no_more (hand_of s.order) i ≡ true) (sym all) knows) in
    let past : names_at_least m.clients (drop (m.hands + 1) l.hand) ≡ true = names-past l.hand 0 m.clients m.hands (m.hands + 1) (omega arith) s.kept in
    subst (HasReached l p) was.1 (record {
      order = by_hand v ∷ s.order;
      legal = (
        hand_may _ (met_in s.order) (clients_at s.order) v met
            (λ known is. names-at l.hand (clients_at s.order) m.hands known (at ∙ ap Some is) s.names),
        s.legal,
      );
      point = ap (λ x. after_hand x v) s.point;
      client = s.client;
      server = s.server;
      hand = ap (λ xs. xs ++ v ∷ []) s.hand ∙ sym (take_step l.hand m.hands v at);
      clients = s.clients;
      servers = s.servers;
      hands = omega arith;
      kept = was.0;
      names = subst (λ i. names_at_least i (drop (m.hands + 1) l.hand) ≡ true) (sym all) past;
    }))

stands-walk : (l : Lists) (p : TrackPoint) (ws : List Who) (m n : Stage) → HasReached l p m → walk (move l) ws m ≡ Some n → HasReached l p n
stands-walk l p [] m n s e = subst (HasReached l p) (same_Some _ _ e) s
stands-walk l p (w ∷ ws) m n s e =
    option_and_then_some (walk (move l) ws) (move l w m) n e
    (λ x is rest. stands-walk l p ws x n (stands l p w m x s is) rest)

begins : (l : Lists) (p : TrackPoint) → HasReached l p (begin p)
begins l p = record {
  order = [];
  legal = tt;
  point = refl;
  client = refl;
  server = refl;
  hand = refl;
  clients = omega arith;
  servers = omega arith;
  hands = omega arith;
  kept = keeps_first l.hand 0;
  names = names-zero l.hand;
}

take_whole : {X : Type 0} (xs : List X) (n : ℕ) → n ≡ length xs → take n xs ≡ xs
take_whole xs n e = ap (λ k. take k xs) e ∙ take-length xs

pub HasLegalOrder-from_walk : (l : Lists) (from : TrackPoint) → HasWalk l from → HasLegalOrder from l.client l.server l.hand
HasLegalOrder-from_walk l from h =
    let s = stands-walk l from h.0 (begin from) h.1 (begins l from) h.2 in
    record {
      order = s.order;
      legal = s.legal;
      client_is = s.client ∙ take_whole l.client h.1.clients h.3.client;
      server_is = s.server ∙ take_whole l.server h.1.servers h.3.server;
      hand_is = s.hand ∙ take_whole l.hand h.1.hands h.3.hand;
    }
