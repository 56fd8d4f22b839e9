-- A hand that only meets the client forbids nothing: its meetings can be put into each legal order, and left out of it.
use Rattle.std.specs.Prelude.{◌↔◌}
use Rattle.std.proofs.Common.{◌≡◌, inl, inr, ℕ, Result, Ok, Err, Bool, true, false, ◌+◌, ◌≤◌, List, [], ◌∷◌, ◌++◌, length, refl, sym, ap, ◌∙◌, subst, arith, length-append, append_assoc}
use Rattle.af_judge.proofs.Common.{ClientEvent, ClientMay, HandEvent, HasLegalOrder, IfOk, IsLegal, IsTrue, Merged, Moment, OnErr, OnOk, ServerEvent, ServerMay, TrackPoint, after_client, after_hand, after_server, append-nil, by_client, by_hand, by_server, cases_lt, client_of, clients_at, hand_of, met_in, server_of, with_pieces}
use Rattle.af_base.specs.declared.event.HandEvent.TheVariants as hand
use Rattle.af_model.specs.History.{after}
use Rattle.af_judge.specs.Blocks.{Lists}
use Rattle.af_judge.specs.Meetings.{AreMeetings, hand_of_own}

-- ## Lists of meetings

pub meetings_rise : (low high : ℕ) (hs : List HandEvent) → AreMeetings low high hs → low ≤ high
meetings_rise low high [] h = h
meetings_rise low high (hand.SetFlags bits ∷ hs) h = absurd h
meetings_rise low high (hand.Met known ∷ hs) h = let rest = meetings_rise known high hs h.1 in omega (arith, h.0, rest)

-- meetings may name more
pub meetings_grow : (low high more : ℕ) (hs : List HandEvent) → high ≤ more → AreMeetings low high hs → AreMeetings low more hs
meetings_grow low high more [] up h = omega (arith, h, up)
meetings_grow low high more (hand.SetFlags bits ∷ hs) up h = absurd h
meetings_grow low high more (hand.Met known ∷ hs) up h = (h.0, meetings_grow known high more hs up h.1)

-- one more meeting
pub meetings_push : (low high known : ℕ) (hs : List HandEvent) → high ≤ known → AreMeetings low high hs → AreMeetings low known (hs ++ hand.Met known ∷ [])
meetings_push low high known [] up h = (omega (arith, h, up), omega arith)
meetings_push low high known (hand.SetFlags bits ∷ hs) up h = absurd h
meetings_push low high known (hand.Met first ∷ hs) up h = (h.0, meetings_push first high known hs up h.1)

-- the last event is a meeting, as those before it
record LastMet (low high : ℕ) (hs : List HandEvent) (e : HandEvent) : Type 0 where
  known : ℕ
  is : e ≡ hand.Met known
  before : AreMeetings low known hs

last_met : (low high : ℕ) (hs : List HandEvent) (e : HandEvent) → AreMeetings low high (hs ++ e ∷ []) → LastMet low high hs e
last_met low high [] (hand.SetFlags bits) h = absurd h
last_met low high [] (hand.Met known) h = record { known = known; is = refl; before = h.0 }
last_met low high (hand.SetFlags bits ∷ hs) e h = absurd h
last_met low high (hand.Met first ∷ hs) e h =
    let r = last_met first high hs e h.1 in
    record { known = r.known; is = r.is; before = (h.0, r.before) }

-- ## Meetings are left out

abbrev without : List Moment → List Moment
without [] = []
without (by_client e ∷ order) = by_client e ∷ without order
without (by_server e ∷ order) = by_server e ∷ without order
without (by_hand e ∷ order) = without order

without-client : (order : List Moment) → client_of (without order) ≡ client_of order
without-client [] = refl
without-client (by_client e ∷ order) = ap (λ l. l ++ e ∷ []) (without-client order)
without-client (by_server e ∷ order) = without-client order
without-client (by_hand e ∷ order) = without-client order

without-server : (order : List Moment) → server_of (without order) ≡ server_of order
without-server [] = refl
without-server (by_client e ∷ order) = without-server order
without-server (by_server e ∷ order) = ap (λ l. l ++ e ∷ []) (without-server order)
without-server (by_hand e ∷ order) = without-server order

without-hand : (order : List Moment) → hand_of (without order) ≡ []
without-hand [] = refl
without-hand (by_client e ∷ order) = without-hand order
without-hand (by_server e ∷ order) = without-hand order
without-hand (by_hand e ∷ order) = without-hand order

without-after : (p : TrackPoint) (low high : ℕ) (order : List Moment) → AreMeetings low high (hand_of order) → after p (without order) ≡ after p order
without-after p low high [] h = refl
without-after p low high (by_client e ∷ order) h = ap (λ q. after_client q e) (without-after p low high order h)
without-after p low high (by_server e ∷ order) h = ap (λ q. after_server q e) (without-after p low high order h)
without-after p low high (by_hand e ∷ order) h =
    let last = last_met low high (hand_of order) e h in
    without-after p low last.known order last.before ∙ ap (after_hand (after p order)) (sym last.is)

client_may : (p q : TrackPoint) (m n : ℕ) (e : ClientEvent) → p ≡ q → m ≡ n → ClientMay p m e → ClientMay q n e
client_may p q m n e points counts h = subst (λ x. ClientMay x n e) points (subst (λ k. ClientMay p k e) counts h)

server_may : (p q : TrackPoint) (m n : ℕ) (e : ServerEvent) → p ≡ q → m ≡ n → ServerMay p m e → ServerMay q n e
server_may p q m n e points counts h = subst (λ x. ServerMay x n e) points (subst (λ k. ServerMay p k e) counts h)

without-legal : (p : TrackPoint) (low high : ℕ) (order : List Moment) → AreMeetings low high (hand_of order) → IsLegal p order → IsLegal p (without order)
without-legal p low high [] h legal = tt
without-legal p low high (by_client e ∷ order) h legal = (
  client_may (after p order) (after p (without order)) (length (server_of order)) (length (server_of (without order))) e
      (sym (without-after p low high order h)) (sym (ap length (without-server order))) legal.0,
  without-legal p low high order h legal.1,
)
without-legal p low high (by_server e ∷ order) h legal = (
  server_may (after p order) (after p (without order)) (length (client_of order)) (length (client_of (without order))) e
      (sym (without-after p low high order h)) (sym (ap length (without-client order))) legal.0,
  without-legal p low high order h legal.1,
)
without-legal p low high (by_hand e ∷ order) h legal =
    let last = last_met low high (hand_of order) e h in
    without-legal p low last.known order last.before legal.1

left_out : (from : TrackPoint) (client : List ClientEvent) (server : List ServerEvent) (hs : List HandEvent) (low high : ℕ)
    → AreMeetings low high hs → HasLegalOrder from client server hs → HasLegalOrder from client server []
left_out from client server hs low high meet h = record {
  order = without h.order;
  legal = without-legal from low high h.order (subst (AreMeetings low high) (sym h.hand_is) meet) h.legal;
  client_is = without-client h.order ∙ h.client_is;
  server_is = without-server h.order ∙ h.server_is;
  hand_is = without-hand h.order;
}

-- ## Meetings are put in

-- an order with one more meeting, after all events of the hand
record WithMet (from : TrackPoint) (known : ℕ) (order : List Moment) : Type 0 where
  put : List Moment
  legal : IsLegal from put
  client_is : client_of put ≡ client_of order
  server_is : server_of put ≡ server_of order
  hand_is : hand_of put ≡ hand_of order ++ hand.Met known ∷ []
  after_is : after from put ≡ after from order
  met : met_in put ≤ known
  at : clients_at put ≤ known

-- right after so many of the client's events
put_here : (from : TrackPoint) (known : ℕ) (order : List Moment) → IsLegal from order → met_in order ≤ known → clients_at order ≤ known → length (client_of order) ≡ known → WithMet from known order
put_here from known order legal met at here = record {
  put = by_hand (hand.Met known) ∷ order;
  legal = ((omega (arith, met, here), at), legal);
  client_is = refl;
  server_is = refl;
  hand_is = refl;
  after_is = refl;
  met = omega (arith, met);
  at = omega (arith, here);
}

put_in : (from : TrackPoint) (known : ℕ) (order : List Moment) → IsLegal from order → met_in order ≤ known → clients_at order ≤ known → known ≤ length (client_of order) → WithMet from known order
put_in from known [] legal met at few = put_here from known [] legal met at (omega (arith, few))
put_in from known (by_client e ∷ order) legal met at few = elim (cases_lt (length (client_of order)) known) [
  | inl past ↦ put_here from known (by_client e ∷ order) legal met at (omega (arith, past, few, length-append (client_of order) (e ∷ [])))
  | inr fits ↦
      let r = put_in from known order legal.1 met at (omega (arith, fits)) in
      record {
        put = by_client e ∷ r.put;
        legal = (
          client_may (after from order) (after from r.put) (length (server_of order)) (length (server_of r.put)) e (sym r.after_is) (sym (ap length r.server_is)) legal.0,
          r.legal,
        );
        client_is = ap (λ l. l ++ e ∷ []) r.client_is;
        server_is = r.server_is;
        hand_is = r.hand_is;
        after_is = ap (λ q. after_client q e) r.after_is;
        met = r.met;
        at = r.at;
      }
]
put_in from known (by_server e ∷ order) legal met at few =
    let r = put_in from known order legal.1 met at few in
    record {
      put = by_server e ∷ r.put;
      legal = (
        server_may (after from order) (after from r.put) (length (client_of order)) (length (client_of r.put)) e (sym r.after_is) (sym (ap length r.client_is)) legal.0,
        r.legal,
      );
      client_is = r.client_is;
      server_is = ap (λ l. l ++ e ∷ []) r.server_is;
      hand_is = r.hand_is;
      after_is = ap (λ q. after_server q e) r.after_is;
      met = r.met;
      at = r.at;
    }
put_in from known (by_hand e ∷ order) legal met at few = put_here from known (by_hand e ∷ order) legal met at (omega (arith, at, few))

all_put : (from : TrackPoint) (client : List ClientEvent) (server : List ServerEvent) (before hs : List HandEvent) (low high : ℕ) (h : HasLegalOrder from client server before)
    → met_in h.order ≤ low → clients_at h.order ≤ low → high ≤ length client → AreMeetings low high hs → HasLegalOrder from client server (before ++ hs)
all_put from client server before [] low high h met at few meet = subst (HasLegalOrder from client server) (sym (append-nil before)) h
all_put from client server before (hand.SetFlags bits ∷ hs) low high h met at few meet = absurd meet
all_put from client server before (hand.Met known ∷ hs) low high h met at few meet =
    let up = meetings_rise known high hs meet.1 in
    let r = put_in from known h.order h.legal (omega (arith, met, meet.0)) (omega (arith, at, meet.0)) (omega (arith, up, few, ap length h.client_is)) in
    let next : HasLegalOrder from client server (before ++ hand.Met known ∷ []) = record {
      order = r.put;
      legal = r.legal;
      client_is = r.client_is ∙ h.client_is;
      server_is = r.server_is ∙ h.server_is;
      hand_is = r.hand_is ∙ ap (λ l. l ++ hand.Met known ∷ []) h.hand_is;
    } in
    subst (HasLegalOrder from client server) (append_assoc before (hand.Met known ∷ []) hs)
    (all_put from client server (before ++ hand.Met known ∷ []) hs known high next r.met r.at few meet.1)

none_met : (order : List Moment) → hand_of order ≡ [] → met_in order ≤ 0
none_met [] h = omega arith
none_met (by_client e ∷ order) h = none_met order h
none_met (by_server e ∷ order) h = none_met order h
none_met (by_hand e ∷ order) h = let long : length (hand_of order ++ e ∷ []) ≡ 0 = ap length h in absurd (omega (arith, length-append (hand_of order) (e ∷ [])))

none_at : (order : List Moment) → hand_of order ≡ [] → clients_at order ≤ 0
none_at [] h = omega arith
none_at (by_client e ∷ order) h = none_at order h
none_at (by_server e ∷ order) h = none_at order h
none_at (by_hand e ∷ order) h = let long : length (hand_of order ++ e ∷ []) ≡ 0 = ap length h in absurd (omega (arith, length-append (hand_of order) (e ∷ [])))

-- with such meetings the lists have a legal order exactly if they have one without a hand
pub only_meetings : (from : TrackPoint) (client : List ClientEvent) (server : List ServerEvent) (hs : List HandEvent) → AreMeetings 0 (length client) hs
    → HasLegalOrder from client server hs ↔ HasLegalOrder from client server []
only_meetings from client server hs meet = (
  left_out from client server hs 0 (length client) meet,
  λ h. all_put from client server [] hs 0 (length client) h (none_met h.order h.hand_is) (none_at h.order h.hand_is) (omega arith) meet,
)

pub by_meetings : (has_hand : Bool) (from : TrackPoint) (client : List ClientEvent) (server : List ServerEvent) (hs : List HandEvent)
    → (has_hand ≡ false → AreMeetings 0 (length client) hs) → HasLegalOrder from client server hs ↔ HasLegalOrder from client server (hand_of_own has_hand hs)
by_meetings true from client server hs meet = (λ h. h, λ h. h)
by_meetings false from client server hs meet = only_meetings from client server hs (meet refl)

-- an answer on the lists with these meetings is one on the lists without
pub answered : {E : Type 0} (r : Result Bool E) (A B : Type 0) → A ↔ B → IfOk r (λ yes. IsTrue yes ↔ A) → IfOk r (λ yes. IsTrue yes ↔ B)
answered (Ok told) A B same h = (λ t. same.0 (h.0 t), λ b. h.1 (same.1 b))
answered (Err e) A B same h = tt

-- ## Lists that grow

-- the hand of these lists only meets the client
abbrev pub OnlyMeets : Lists → Type 0
OnlyMeets l = AreMeetings 0 (length l.client) l.hand

pub client_more : {T E : Type 0} (r : Result T E) (old new : Lists) (e : ClientEvent)
    → OnOk r (new ≡ record old { client = old.client ++ e ∷ [] }) → OnErr r (new ≡ old) → OnlyMeets old → OnlyMeets new
client_more (Ok done) old new e told kept h =
    subst OnlyMeets (sym told) (meetings_grow 0 (length old.client) (length (old.client ++ e ∷ [])) old.hand (omega (arith, length-append old.client (e ∷ []))) h)
client_more (Err fault) old new e told kept h = subst OnlyMeets (sym kept) h

pub hand_more : {T E : Type 0} (r : Result T E) (old new : Lists) (known : ℕ) → known ≡ length old.client
    → OnOk r (new ≡ record old { hand = old.hand ++ hand.Met known ∷ [] }) → OnErr r (new ≡ old) → OnlyMeets old → OnlyMeets new
hand_more (Ok done) old new known is told kept h =
    let pushed : AreMeetings 0 known (old.hand ++ hand.Met known ∷ []) = meetings_push 0 (length old.client) known old.hand (omega (arith, is)) h in
    subst OnlyMeets (sym told) (subst (λ n. AreMeetings 0 n (old.hand ++ hand.Met known ∷ [])) is pushed)
hand_more (Err fault) old new known is told kept h = subst OnlyMeets (sym kept) h

-- pieces that end with a meeting of all the client's events
pub pieces_meet : (old new : Merged) (cs : List ClientEvent) (ss : List ServerEvent) (known : ℕ) → known ≡ length old.client + length cs
    → new ≡ with_pieces old cs ss (hand.Met known ∷ []) → AreMeetings 0 (length old.client) old.hand → AreMeetings 0 (length new.client) new.hand
pieces_meet old new cs ss known is joined h =
    let whole : known ≡ length (old.client ++ cs) = omega (arith, is, length-append old.client cs) in
    let pushed : AreMeetings 0 known (old.hand ++ hand.Met known ∷ []) = meetings_push 0 (length old.client) known old.hand (omega (arith, is)) h in
    subst (λ (m : Merged). AreMeetings 0 (length m.client) m.hand) (sym joined) (subst (λ n. AreMeetings 0 n (old.hand ++ hand.Met known ∷ [])) whole pushed)

pub pieces_few : (old new : Merged) (cs : List ClientEvent) (ss : List ServerEvent) (known : ℕ) → 1 ≤ length cs
    → new ≡ with_pieces old cs ss (hand.Met known ∷ []) → length old.hand ≤ length old.client → length new.hand ≤ length new.client
pieces_few old new cs ss known some joined few =
    subst (λ (m : Merged). length m.hand ≤ length m.client) (sym joined) (omega (arith, some, few, length-append old.client cs, length-append old.hand (hand.Met known ∷ [])))

-- an answer on lists with such meetings, to which nothing more is added
pub answered_pieces : (right : Bool) (from begins : TrackPoint) (client more : List ClientEvent) (server also : List ServerEvent) (hs : List HandEvent)
    → from ≡ begins → more ≡ [] → also ≡ [] → AreMeetings 0 (length client) hs → IsTrue right ↔ HasLegalOrder from client server hs
    → IsTrue right ↔ HasLegalOrder begins (client ++ more) (server ++ also) []
answered_pieces right from begins client more server also hs first none nothing meet h =
    let cs : client ≡ client ++ more = sym (ap (λ l. client ++ l) none ∙ append-nil client) in
    let ss : server ≡ server ++ also = sym (ap (λ l. server ++ l) nothing ∙ append-nil server) in
    let same = only_meetings from client server hs meet in
    let plain : IsTrue right ↔ HasLegalOrder from client server [] = (λ t. same.0 (h.0 t), λ b. h.1 (same.1 b)) in
    subst (λ p. IsTrue right ↔ HasLegalOrder p (client ++ more) (server ++ also) []) first
    (subst (λ l. IsTrue right ↔ HasLegalOrder from l (server ++ also) []) cs
    (subst (λ l. IsTrue right ↔ HasLegalOrder from client l []) ss plain))
