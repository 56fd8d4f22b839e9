-- Which events of a block's parties pass one another: a mark passes any, and the server's events pass the hand's.
use Rattle.std.proofs.Common.{◌≡◌, inl, inr, ℕ, zero, suc, ◌-◌, ◌/◌, ◌≤◌, ◌||◌, true, bit_or, List, ◌++◌, take, drop, refl, sym, ap, ◌∙◌, subst, arith}
use Rattle.af_turn_law.proofs.Common.{ClientEvent, ClientMay, HandEvent, ServerEvent, ServerMay, TrackPoint, after_client, after_hand, after_server, either, no, with_taken}
use lib.Bits.{or_step, or_zero_l, or_shr, or_comm}
use Rattle.af_base.specs.declared.event.ClientEvent.TheVariants as client
use Rattle.af_base.specs.declared.event.ServerEvent.TheVariants as server
use Rattle.af_base.specs.declared.event.HandEvent.TheVariants as hand
use Rattle.af_turn_law.specs.Marking.{client_is_mark, client_named, server_is_mark, server_named, hand_is_mark}

-- ## What a mark leaves

pub client_same : (q : TrackPoint) (e : ClientEvent) → client_is_mark e ≡ true → after_client q e ≡ q
client_same q (client.Learn k) is = refl
client_same q e is = no is

pub server_same : (q : TrackPoint) (e : ServerEvent) → server_is_mark e ≡ true → after_server q e ≡ q
server_same q (server.Learn k) is = refl
server_same q e is = no is

pub hand_same : (q : TrackPoint) (e : HandEvent) → hand_is_mark e ≡ true → after_hand q e ≡ q
hand_same q (hand.Met k) is = refl
hand_same q (hand.SetFlags bits) is = no is

-- ## The points

pub client_server : (q : TrackPoint) (e : ClientEvent) (a : ServerEvent) → (client_is_mark e || server_is_mark a) ≡ true → after_client (after_server q a) e ≡ after_server (after_client q e) a
client_server q e a marks = elim (either (client_is_mark e) (server_is_mark a) marks) [
  | inl is ↦ client_same (after_server q a) e is ∙ ap (λ r. after_server r a) (sym (client_same q e is))
  | inr is ↦ ap (λ r. after_client r e) (server_same q a is) ∙ sym (server_same (after_client q e) a is)
]

pub client_hand : (q : TrackPoint) (e : ClientEvent) (a : HandEvent) → (client_is_mark e || hand_is_mark a) ≡ true → after_client (after_hand q a) e ≡ after_hand (after_client q e) a
client_hand q e a marks = elim (either (client_is_mark e) (hand_is_mark a) marks) [
  | inl is ↦ client_same (after_hand q a) e is ∙ ap (λ r. after_hand r a) (sym (client_same q e is))
  | inr is ↦ ap (λ r. after_client r e) (hand_same q a is) ∙ sym (hand_same (after_client q e) a is)
]

or_up_to : (n a b c : ℕ) → a ≤ n → bit_or (bit_or a b) c ≡ bit_or (bit_or a c) b
or_up_to zero a b c le =
    let none : a ≡ 0 = omega (arith, le) in
    ap (λ x. bit_or (bit_or x b) c) none ∙ ap (λ x. bit_or x c) (or_zero_l b) ∙ or_comm b c ∙ sym (ap (λ x. bit_or (bit_or x c) b) none ∙ ap (λ x. bit_or x b) (or_zero_l c))
or_up_to (suc n) a b c le =
    let half = or_up_to n (a / 2) (b / 2) (c / 2) (omega (arith, le)) in
    let left = or_step (bit_or a b) c in
    let right = or_step (bit_or a c) b in
    let high_left : bit_or (bit_or a b / 2) (c / 2) ≡ bit_or (bit_or (a / 2) (b / 2)) (c / 2) = ap (λ x. bit_or x (c / 2)) (or_shr a b 1) in
    let high_right : bit_or (bit_or a c / 2) (b / 2) ≡ bit_or (bit_or (a / 2) (c / 2)) (b / 2) = ap (λ x. bit_or x (b / 2)) (or_shr a c 1) in
    let low_left = or_step a b in
    let low_right = or_step a c in
    omega (arith, half, left, right, high_left, high_right, low_left, low_right)

or_swapped : (a b c : ℕ) → bit_or (bit_or a b) c ≡ bit_or (bit_or a c) b
or_swapped a b c = or_up_to a a b c (omega arith)

pub server_hand : (q : TrackPoint) (e : ServerEvent) (a : HandEvent) → after_server (after_hand q a) e ≡ after_hand (after_server q e) a
server_hand q e (hand.Met k) = refl
server_hand q (server.SetFlags more) (hand.SetFlags bits) = ap (λ flags. record q { flags = flags }) (or_swapped q.flags bits more)
server_hand q e (hand.SetFlags bits) = refl

-- ## What may be done

-- more of the other party's events forbid nothing
client_more : (q : TrackPoint) (m n : ℕ) (e : ClientEvent) → m ≤ n → ClientMay q m e → ClientMay q n e
client_more q m n (client.Learn k) le h = omega (arith, le, h)
client_more q m n _ le h = h

server_more : (q : TrackPoint) (m n : ℕ) (e : ServerEvent) → m ≤ n → ServerMay q m e → ServerMay q n e
server_more q m n (server.Learn k) le h = omega (arith, le, h)
server_more q m n _ le h = h

-- fewer of the other party's events forbid nothing, if a mark names no more
client_fewer : (q : TrackPoint) (m n : ℕ) (e : ClientEvent) → client_named e ≤ n → ClientMay q m e → ClientMay q n e
client_fewer q m n (client.Learn k) le h = le
client_fewer q m n _ le h = h

server_fewer : (q : TrackPoint) (m n : ℕ) (e : ServerEvent) → server_named e ≤ n → ServerMay q m e → ServerMay q n e
server_fewer q m n (server.Learn k) le h = le
server_fewer q m n _ le h = h

-- a mark may be done at any point
client_at : (p q : TrackPoint) (n : ℕ) (e : ClientEvent) → client_is_mark e ≡ true → ClientMay p n e → ClientMay q n e
client_at p q n (client.Learn k) is h = h
client_at p q n e is h = no is

server_at : (p q : TrackPoint) (n : ℕ) (e : ServerEvent) → server_is_mark e ≡ true → ServerMay p n e → ServerMay q n e
server_at p q n (server.Learn k) is h = h
server_at p q n e is h = no is

-- the server's event comes before the client's
pub server_before : (q : TrackPoint) (m n : ℕ) (e : ClientEvent) (a : ServerEvent) → (client_is_mark e || server_is_mark a) ≡ true → server_named a ≤ n → ServerMay (after_client q e) m a → ServerMay q n a
server_before q m n e a marks few h = elim (either (client_is_mark e) (server_is_mark a) marks) [
  | inl is ↦ server_fewer q m n a few (subst (λ r. ServerMay r m a) (client_same q e is) h)
  | inr is ↦ server_at (after_client q e) q n a is (server_fewer (after_client q e) m n a few h)
]

-- the client's event comes behind the server's
pub client_behind : (q : TrackPoint) (m n : ℕ) (e : ClientEvent) (a : ServerEvent) → (client_is_mark e || server_is_mark a) ≡ true → m ≤ n → ClientMay q m e → ClientMay (after_server q a) n e
client_behind q m n e a marks le h = elim (either (client_is_mark e) (server_is_mark a) marks) [
  | inl is ↦ client_at q (after_server q a) n e is (client_more q m n e le h)
  | inr is ↦ subst (λ r. ClientMay r n e) (sym (server_same q a is)) (client_more q m n e le h)
]

-- the client's event comes before the server's
pub client_before : (q : TrackPoint) (m n : ℕ) (e : ServerEvent) (a : ClientEvent) → (client_is_mark a || server_is_mark e) ≡ true → client_named a ≤ n → ClientMay (after_server q e) m a → ClientMay q n a
client_before q m n e a marks few h = elim (either (client_is_mark a) (server_is_mark e) marks) [
  | inl is ↦ client_at (after_server q e) q n a is (client_fewer (after_server q e) m n a few h)
  | inr is ↦ client_fewer q m n a few (subst (λ r. ClientMay r m a) (server_same q e is) h)
]

-- the server's event comes behind the client's
pub server_behind : (q : TrackPoint) (m n : ℕ) (e : ServerEvent) (a : ClientEvent) → (client_is_mark a || server_is_mark e) ≡ true → m ≤ n → ServerMay q m e → ServerMay (after_client q a) n e
server_behind q m n e a marks le h = elim (either (client_is_mark a) (server_is_mark e) marks) [
  | inl is ↦ subst (λ r. ServerMay r n e) (sym (client_same q a is)) (server_more q m n e le h)
  | inr is ↦ server_at q (after_client q a) n e is (server_more q m n e le h)
]

-- the client's event comes behind the hand's, or before it
pub client_behind_hand : (q : TrackPoint) (n : ℕ) (e : ClientEvent) (a : HandEvent) → (client_is_mark e || hand_is_mark a) ≡ true → ClientMay q n e → ClientMay (after_hand q a) n e
client_behind_hand q n e a marks h = elim (either (client_is_mark e) (hand_is_mark a) marks) [
  | inl is ↦ client_at q (after_hand q a) n e is h
  | inr is ↦ subst (λ r. ClientMay r n e) (sym (hand_same q a is)) h
]

pub client_before_hand : (q : TrackPoint) (n : ℕ) (e : ClientEvent) (a : HandEvent) → (client_is_mark e || hand_is_mark a) ≡ true → ClientMay (after_hand q a) n e → ClientMay q n e
client_before_hand q n e a marks h = elim (either (client_is_mark e) (hand_is_mark a) marks) [
  | inl is ↦ client_at (after_hand q a) q n e is h
  | inr is ↦ subst (λ r. ClientMay r n e) (hand_same q a is) h
]

-- the server sees no flags
pub server_by_hand : (q : TrackPoint) (n : ℕ) (e : ServerEvent) (a : HandEvent) → (ServerMay q n e → ServerMay (after_hand q a) n e) × (ServerMay (after_hand q a) n e → ServerMay q n e)
server_by_hand q n e (hand.Met k) = (λ h. h, λ h. h)
server_by_hand q n (server.SawGain word) (hand.SetFlags bits) = (λ h. h, λ h. h)
server_by_hand q n _ (hand.SetFlags bits) = (λ h. h, λ h. h)

-- ## The frames taken

-- the frames of a take go by what was consumed
pub taken_same : (frames : List ℕ) (base : ℕ) (p q : TrackPoint) (taken : List ℕ) (e : ServerEvent) → p.consumed ≡ q.consumed → with_taken frames base p taken e ≡ with_taken frames base q taken e
taken_same frames base p q taken (server.Take count) same = ap (λ c. taken ++ take count (drop (c - base) frames)) same
taken_same frames base p q taken e same = refl
