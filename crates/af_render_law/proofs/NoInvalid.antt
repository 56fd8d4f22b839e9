-- If neither the server nor the hand of a block sets INVALID, its client never sees it.
use Rattle.std.proofs.Common.{◌≡◌, ℕ, ◌*◌, ◌==◌, max, min, bit_and, bit_or, Bool, true, false, MatchBool, List, [], ◌∷◌, ◌++◌, All, refl, sym, ap, ◌∙◌, subst, arith, eqb-true}
use Rattle.af_render_law.proofs.Common.{All-cons, All-head, All-nil, All-push, All-tail, ClientEvent, HandEvent, Moment, SawNoInvalid, SeesNoInvalid, ServerEvent, Shape, after, by_client, by_hand, by_server, client_of, hand_of, recursion_from_All, server_of}
use Rattle.std.specs.Int.{bit_at}
use Rattle.std.proofs.lemmas.Nat.Bits.{and_pow, bit_at_and, bit_at_or}
use Rattle.af_base.specs.declared.event.ClientEvent.TheVariants as client
use Rattle.af_base.specs.declared.event.HandEvent.TheVariants as hand
use Rattle.af_base.specs.declared.event.ServerEvent.TheVariants as server
use Rattle.af_model.specs.declared.point.TrackPoint.{TrackPoint}
use Rattle.af_model.specs.History.{IsLegal, HasHistory}
use Rattle.af_model.specs.Point.{start, ClientMay, after_client, after_server, after_hand}

-- none of the client's events saw it
abbrev SawNone : List ClientEvent → Type 0
SawNone events = All SeesNoInvalid events

-- a server's event doesn't set INVALID
abbrev pub SetsNoInvalid : ServerEvent → Type 0
SetsNoInvalid (server.SetFlags bits) = bit_and bits 4 ≡ 0
SetsNoInvalid _ = Unit {0}

abbrev pub SetNoInvalid : List ServerEvent → Type 0
SetNoInvalid events = All SetsNoInvalid events

-- a hand's event doesn't set INVALID
abbrev pub HandSetsNoInvalid : HandEvent → Type 0
HandSetsNoInvalid (hand.SetFlags bits) = bit_and bits 4 ≡ 0
HandSetsNoInvalid (hand.Met client) = Unit {0}

abbrev pub HandSetNoInvalid : List HandEvent → Type 0
HandSetNoInvalid events = All HandSetsNoInvalid events

-- ## Lists

module _ {X : Type 0} (P : X → Type 0) where
  -- what holds of a list holds of its beginning
  pub all_first : (first rest : List X) → All P (first ++ rest) → All P first
  all_first [] rest h = All-nil P
  all_first (x ∷ first) rest h = All-cons P x first (All-head P x (first ++ rest) h) (all_first first rest (All-tail P x (first ++ rest) h))

  all_last : (first : List X) (x : X) → All P (first ++ x ∷ []) → P x
  all_last [] x h = All-head P x [] h
  all_last (y ∷ first) x h = all_last first x (All-tail P y (first ++ x ∷ []) h)

-- a server that sets no INVALID by a list sets none by a beginning of it
pub set_first : (first rest events : List ServerEvent) → first ++ rest ≡ events → SetNoInvalid events → SetNoInvalid first
set_first first rest events is h = all_first SetsNoInvalid first rest (subst SetNoInvalid (sym is) h)

-- ## Flags

four : (n : ℕ) → bit_and n 4 ≡ bit_at n 2 * 4
four n = and_pow n 2

no_bit : (n : ℕ) → bit_and n 4 ≡ 0 → bit_at n 2 ≡ 0
no_bit n h = let is : bit_at n 2 * 4 ≡ 0 = sym (four n) ∙ h in omega arith

lacks : (n : ℕ) → bit_at n 2 ≡ 0 → bit_and n 4 ≡ 0
lacks n h = four n ∙ ap (λ b. b * 4) h

lack_or : (n bits : ℕ) → bit_and n 4 ≡ 0 → bit_and bits 4 ≡ 0 → bit_and (bit_or n bits) 4 ≡ 0
lack_or n bits g h = lacks (bit_or n bits) (bit_at_or n bits 2 ∙ (λ i. max (no_bit n g i) (no_bit bits h i)))

lack_and : (n mask : ℕ) → bit_and n 4 ≡ 0 → bit_and (bit_and n mask) 4 ≡ 0
lack_and n mask h = lacks (bit_and n mask) (bit_at_and n mask 2 ∙ ap (λ b. min b (bit_at mask 2)) (no_bit n h) ∙ (let z : min 0 (bit_at mask 2) ≡ 0 = omega arith in z))

-- ## A client's event

saw_by : (flags now : ℕ) (b : Bool) → (bit_and flags 4 == 0) ≡ b → MatchBool b (bit_and now 4 ≡ 0) (flags ≡ now) → bit_and now 4 ≡ 0 → bit_and flags 4 ≡ 0
saw_by flags now true is may h = eqb-true (bit_and flags 4) 0 is
saw_by flags now false is may h = ap (λ n. bit_and n 4) may ∙ h

sees : (p : TrackPoint) (others : ℕ) (e : ClientEvent) → ClientMay p others e → bit_and p.flags 4 ≡ 0 → SeesNoInvalid e
sees p others (client.ClearFlags old) may h = ap (λ n. bit_and n 4) may ∙ h
sees p others (client.SawFlags flags) may h = saw_by flags p.flags (bit_and flags 4 == 0) refl may h
sees p others _ may h = tt

client_lacks : (p : TrackPoint) (e : ClientEvent) → bit_and p.flags 4 ≡ 0 → bit_and (after_client p e).flags 4 ≡ 0
client_lacks p (client.ClearFlags old) h = lack_and p.flags 4294967287 h
client_lacks p _ h = h

server_lacks : (p : TrackPoint) (e : ServerEvent) → SetsNoInvalid e → bit_and p.flags 4 ≡ 0 → bit_and (after_server p e).flags 4 ≡ 0
server_lacks p (server.SetFlags bits) none h = lack_or p.flags bits h none
server_lacks p _ none h = h

hand_lacks : (p : TrackPoint) (e : HandEvent) → HandSetsNoInvalid e → bit_and p.flags 4 ≡ 0 → bit_and (after_hand p e).flags 4 ≡ 0
hand_lacks p (hand.SetFlags bits) none h = lack_or p.flags bits h none
hand_lacks p (hand.Met client) none h = h

-- ## An order

-- the flags lack INVALID at the end of the order, and no look before saw it
record Unseen (p : TrackPoint) (order : List Moment) : Type 0 where
  flags : bit_and (after p order).flags 4 ≡ 0
  saw : SawNone (client_of order)

module _ (p : TrackPoint) (begins : bit_and p.flags 4 ≡ 0) where
  order_unseen : (order : List Moment) → IsLegal p order → SetNoInvalid (server_of order) → HandSetNoInvalid (hand_of order) → Unseen p order
  order_unseen [] legal sets hands = record { flags = begins; saw = All-nil SeesNoInvalid }
  order_unseen (by_client e ∷ order) legal sets hands = let r = order_unseen order legal.1 sets hands in record {
    flags = client_lacks (after p order) e r.flags;
    saw = All-push SeesNoInvalid (client_of order) e r.saw (sees (after p order) _ e legal.0 r.flags);
  }
  order_unseen (by_server e ∷ order) legal sets hands = let r = order_unseen order legal.1 (all_first SetsNoInvalid (server_of order) (e ∷ []) sets) hands in record {
    flags = server_lacks (after p order) e (all_last SetsNoInvalid (server_of order) e sets) r.flags;
    saw = r.saw;
  }
  order_unseen (by_hand e ∷ order) legal sets hands = let r = order_unseen order legal.1 sets (all_first HandSetsNoInvalid (hand_of order) (e ∷ []) hands) in record {
    flags = hand_lacks (after p order) e (all_last HandSetsNoInvalid (hand_of order) e hands) r.flags;
    saw = r.saw;
  }

-- in a history without INVALID the client saw none
pub unseen : (k : Shape) (client : List ClientEvent) (frames : List ℕ) (server : List ServerEvent) (taken : List ℕ) (hand : List HandEvent) → HasHistory k client frames server taken hand → SetNoInvalid server → HandSetNoInvalid hand → SawNoInvalid client
unseen k client frames server taken hand h sets hands =
    recursion_from_All SeesNoInvalid client (subst SawNone h.client_is (order_unseen (start k) refl h.order h.legal (subst SetNoInvalid (sym h.server_is) sets) (subst HandSetNoInvalid (sym h.hand_is) hands)).saw)
