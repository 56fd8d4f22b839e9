-- From a legal order of a block's parties the last event of one party is taken to the end, if that party had learnt of all that others did.
use Rattle.std.proofs.Common.{◌≡◌, ◌⊎◌, inl, inr, ℕ, ◌+◌, ◌≤◌, ◌<◌, ◌||◌, max, Bool, true, false, true≢false, List, [], ◌∷◌, ◌++◌, length, refl, sym, ap, ◌∙◌, subst, arith, length-append}
use Rattle.af_turn_law.proofs.Common.{ClientEvent, ClientMay, HandEvent, HandMay, IsLegal, Moment, ServerEvent, ServerMay, Shape, TrackPoint, after, after_client, after_hand, after_server, at_few, by_client, by_hand, by_server, client_of, client_taken, clients_at, fold-append, hand_met, hand_of, met_by, met_in, same_from_push, server_of, start, taken_of, with_taken}
use Rattle.af_base.specs.declared.event.ClientEvent.TheVariants as client
use Rattle.af_base.specs.declared.event.ServerEvent.TheVariants as server
use Rattle.af_base.specs.declared.event.HandEvent.TheVariants as hand
use Rattle.af_model.proofs.OneFate.{hand_consumed}
use Rattle.af_turn_law.specs.Marking.{learnt, KnowsAll, client_marks, server_marks, hand_marks, client_is_mark, client_named, server_is_mark, server_named, hand_is_mark, hand_named}
use Rattle.af_turn_law.specs.Phased.{ends_met}
use Rattle.af_turn_law.proofs.Marked.{past_front, past_last, learnt_last, learnt_more}
use Rattle.af_turn_law.proofs.BlockSwaps.{client_server, client_hand, server_hand, server_before, client_behind, client_before, server_behind, client_behind_hand, client_before_hand, server_by_hand, taken_same}

-- ## What was learnt in a legal order stands before

client_learns : (q : TrackPoint) (n : ℕ) (e : ClientEvent) → ClientMay q n e → client_named e ≤ n
client_learns q n (client.Learn k) h = h
client_learns q n e h = omega arith

server_learns : (q : TrackPoint) (n : ℕ) (e : ServerEvent) → ServerMay q n e → server_named e ≤ n
server_learns q n (server.Learn k) h = h
server_learns q n e h = omega arith

client_learnt : (p : TrackPoint) (order : List Moment) → IsLegal p order → learnt client_marks (client_of order) ≤ length (server_of order)
client_learnt p [] l = omega arith
client_learnt p (by_client e ∷ order) l =
    let r = client_learnt p order l.1 in
    let last = learnt_last client_marks (client_of order) e in
    let few = client_learns (after p order) (length (server_of order)) e l.0 in
    omega (arith, r, last, few)
client_learnt p (by_server e ∷ order) l = let r = client_learnt p order l.1 in let n = length-append (server_of order) (e ∷ []) in omega (arith, r, n)
client_learnt p (by_hand e ∷ order) l = client_learnt p order l.1

server_learnt : (p : TrackPoint) (order : List Moment) → IsLegal p order → learnt server_marks (server_of order) ≤ length (client_of order)
server_learnt p [] l = omega arith
server_learnt p (by_server e ∷ order) l =
    let r = server_learnt p order l.1 in
    let last = learnt_last server_marks (server_of order) e in
    let few = server_learns (after p order) (length (client_of order)) e l.0 in
    omega (arith, r, last, few)
server_learnt p (by_client e ∷ order) l = let r = server_learnt p order l.1 in let n = length-append (client_of order) (e ∷ []) in omega (arith, r, n)
server_learnt p (by_hand e ∷ order) l = server_learnt p order l.1

met_named : (e : HandEvent) → met_by e ≡ hand_named e
met_named (hand.SetFlags bits) = refl
met_named (hand.Met k) = refl

pub met_learnt : (order : List Moment) → met_in order ≡ learnt hand_marks (hand_of order)
met_learnt [] = refl
met_learnt (by_client e ∷ order) = met_learnt order
met_learnt (by_server e ∷ order) = met_learnt order
met_learnt (by_hand e ∷ order) = let r = met_learnt order in let last = learnt_last hand_marks (hand_of order) e in let same = met_named e in omega (arith, r, last, same)

-- what the hand had met before its last event
hand_learnt : (p : TrackPoint) (order : List Moment) (hs : List HandEvent) (e : HandEvent) → hand_of order ≡ hs ++ e ∷ [] → IsLegal p order → learnt hand_marks hs ≤ length (client_of order)
hand_learnt p [] hs e is l = let n : 0 ≡ length (hs ++ e ∷ []) = ap length is in absurd (let z : ⊥ = omega (arith, n, length-append hs (e ∷ [])) in z)
hand_learnt p (by_client x ∷ order) hs e is l = let r = hand_learnt p order hs e is l.1 in let n = length-append (client_of order) (x ∷ []) in omega (arith, r, n)
hand_learnt p (by_server x ∷ order) hs e is l = hand_learnt p order hs e is l.1
hand_learnt p (by_hand x ∷ order) hs e is l =
    let s = same_from_push (hand_of order) hs x e is in
    let few = hand_met (length (client_of order)) (met_in order) (clients_at order) x l.0 in
    let same = ap (learnt hand_marks) s.0 in
    let met = met_learnt order in
    omega (arith, few, same, met)

-- ## The event taken to the end

-- an order without the last event of a party, with which it leaves the same
pub record Pulled (k : Shape) (frames : List ℕ) (m : Moment) (cs : List ClientEvent) (ss : List ServerEvent) (hs : List HandEvent) (order : List Moment) (Allowed : List Moment → Type 0) : Type 0 where
  pub rest : List Moment
  pub legal : IsLegal (start k) rest
  pub may : Allowed rest
  pub ends : after (start k) (m ∷ rest) ≡ after (start k) order
  pub client_is : client_of rest ≡ cs
  pub server_is : server_of rest ≡ ss
  pub hand_is : hand_of rest ≡ hs
  pub taken_is : taken_of frames k (m ∷ rest) ≡ taken_of frames k order
  pub at : clients_at rest ≤ clients_at order
  pub met : met_in rest ≤ met_in order

either : (a b : Bool) → (a ≡ false → b ≡ false → ⊥) → (a || b) ≡ true
either true b h = refl
either false true h = refl
either false false h = absurd (h refl refl)

pub hand_fewer : (n m met less at low : ℕ) (e : HandEvent) → HandMay n met at e → less ≤ m → low ≤ at → HandMay m less low e
hand_fewer n m met less at low (hand.SetFlags bits) h le down = le
hand_fewer n m met less at low (hand.Met k) h le down = (le, (let a = h.1 in omega (arith, a, down)))

-- the hand's last event stands before the client's last one, or it is a mark
abbrev pub HandBefore : List Moment → ℕ → Type 0
HandBefore order n = (ends_met (hand_of order) ≡ true) ⊎ (clients_at order ≤ n)

pub ends_last : (hs : List HandEvent) (e : HandEvent) → ends_met (hs ++ e ∷ []) ≡ hand_is_mark e
ends_last hs e = fold-append (λ met e. hand_is_mark e) true hs (e ∷ [])

module _ (k : Shape) (frames : List ℕ) where
  abbrev p : TrackPoint
  p = start k

  -- ## The client's last event

  abbrev ClientAllowed : ClientEvent → List Moment → Type 0
  ClientAllowed e rest = ClientMay (after p rest) (length (server_of rest)) e

  -- the client's event that is no mark stands behind all that others did
  hand_stays : (order : List Moment) (n met : ℕ) (a : HandEvent) → HandMay (length (client_of order)) (met_in order) (clients_at order) a → max (met_by a) (met_in order) ≤ n → HandBefore (by_hand a ∷ order) n → n < length (client_of order) → (hand_is_mark a ≡ true) × (clients_at order ≤ n)
  hand_stays order n met (hand.Met j) may few before more = (refl, (let at = may.1 in omega (arith, at, few)))
  hand_stays order n met (hand.SetFlags bits) may few before more = elim before [
    | inl is ↦ absurd (true≢false (sym is ∙ ends_last (hand_of order) (hand.SetFlags bits)))
    | inr le ↦ absurd (let z : ⊥ = omega (arith, le, more) in z)
  ]

  pub pull_client : (cs : List ClientEvent) (e : ClientEvent) (order : List Moment) → client_of order ≡ cs ++ e ∷ [] → IsLegal p order → learnt server_marks (server_of order) ≤ length cs → met_in order ≤ length cs
      → (client_is_mark e ≡ false → KnowsAll client_marks server_marks cs (server_of order) × HandBefore order (length cs))
      → Pulled k frames (by_client e) cs (server_of order) (hand_of order) order (ClientAllowed e)
  pull_client cs e [] is l few met knows = let n : 0 ≡ length (cs ++ e ∷ []) = ap length is in absurd (let z : ⊥ = omega (arith, n, length-append cs (e ∷ [])) in z)
  pull_client cs e (by_client x ∷ order) is l few met knows =
      let s = same_from_push (client_of order) cs x e is in
      record {
        rest = order;
        legal = l.1;
        may = subst (λ z. ClientMay (after p order) (length (server_of order)) z) s.1 l.0;
        ends = λ i. after_client (after p order) (sym s.1 i);
        client_is = s.0;
        server_is = refl;
        hand_is = refl;
        taken_is = refl;
        at = omega arith;
        met = omega arith;
      }
  pull_client cs e (by_server a ∷ order) is l few met knows =
      let last = learnt_last server_marks (server_of order) a in
      let r = pull_client cs e order is l.1 (omega (arith, few, last)) met (λ plain. (let both = knows plain in (past_front server_marks (learnt client_marks cs) (server_of order) (a ∷ []) both.0, both.1))) in
      let q : TrackPoint = after p r.rest in
      let marks : (client_is_mark e || server_is_mark a) ≡ true = either (client_is_mark e) (server_is_mark a)
      (λ plain plain_a. (let past = past_last server_marks (learnt client_marks cs) (server_of order) a plain_a (knows plain).0 in
      let low = client_learnt p order l.1 in
      let same = ap (learnt client_marks) is in
      let less = learnt_more client_marks cs (e ∷ []) in
      let z : ⊥ = omega (arith, past, low, same, less) in z)) in
      let many = ap length r.client_is in
      record {
        rest = by_server a ∷ r.rest;
        legal = (server_before q (length (client_of order)) (length (client_of r.rest)) e a marks (omega (arith, few, last, many)) (subst (λ z. ServerMay z (length (client_of order)) a) (sym r.ends) l.0), r.legal);
        may = client_behind q (length (server_of r.rest)) (length (server_of r.rest ++ a ∷ [])) e a marks (let n = length-append (server_of r.rest) (a ∷ []) in omega (arith, n)) r.may;
        ends = client_server q e a marks ∙ ap (λ z. after_server z a) r.ends;
        client_is = r.client_is;
        server_is = ap (λ l. l ++ a ∷ []) r.server_is;
        hand_is = r.hand_is;
        taken_is = ap (λ t. with_taken frames k.base q t a) r.taken_is ∙ taken_same frames k.base q (after p order) (taken_of frames k order) a (sym (client_taken q e) ∙ ap (λ (z : TrackPoint). z.consumed) r.ends);
        at = r.at;
        met = r.met;
      }
  pull_client cs e (by_hand a ∷ order) is l few met knows =
      let whole : length (client_of order) ≡ length cs + 1 = ap length is ∙ length-append cs (e ∷ []) in
      let stays = λ (plain : client_is_mark e ≡ false). hand_stays order (length cs) (length cs) a l.0 met (knows plain).1 (omega (arith, whole)) in
      let r = pull_client cs e order is l.1 few (omega (arith, met)) (λ plain. ((knows plain).0, inr (stays plain).1)) in
      let q : TrackPoint = after p r.rest in
      let marks : (client_is_mark e || hand_is_mark a) ≡ true = either (client_is_mark e) (hand_is_mark a) (λ plain plain_a. true≢false (sym (stays plain).0 ∙ plain_a)) in
      let many = ap length r.client_is in
      let down = r.met in
      let back = r.at in
      record {
        rest = by_hand a ∷ r.rest;
        legal = (hand_fewer (length (client_of order)) (length (client_of r.rest)) (met_in order) (met_in r.rest) (clients_at order) (clients_at r.rest) a l.0 (omega (arith, met, many, down)) back, r.legal);
        may = client_behind_hand q (length (server_of r.rest)) e a marks r.may;
        ends = client_hand q e a marks ∙ ap (λ z. after_hand z a) r.ends;
        client_is = r.client_is;
        server_is = r.server_is;
        hand_is = ap (λ l. l ++ a ∷ []) r.hand_is;
        taken_is = r.taken_is;
        at = omega (arith, many, whole);
        met = omega (arith, down);
      }

  -- ## The server's last event

  abbrev pub ServerAllowed : ServerEvent → List Moment → Type 0
  ServerAllowed e rest = ServerMay (after p rest) (length (client_of rest)) e

  pub pull_server : (ss : List ServerEvent) (e : ServerEvent) (order : List Moment) → server_of order ≡ ss ++ e ∷ [] → IsLegal p order → learnt client_marks (client_of order) ≤ length ss
      → (server_is_mark e ≡ false → KnowsAll server_marks client_marks ss (client_of order))
      → Pulled k frames (by_server e) (client_of order) ss (hand_of order) order (ServerAllowed e)
  pull_server ss e [] is l few knows = let n : 0 ≡ length (ss ++ e ∷ []) = ap length is in absurd (let z : ⊥ = omega (arith, n, length-append ss (e ∷ [])) in z)
  pull_server ss e (by_server x ∷ order) is l few knows =
      let s = same_from_push (server_of order) ss x e is in
      record {
        rest = order;
        legal = l.1;
        may = subst (λ z. ServerMay (after p order) (length (client_of order)) z) s.1 l.0;
        ends = λ i. after_server (after p order) (sym s.1 i);
        client_is = refl;
        server_is = s.0;
        hand_is = refl;
        taken_is = λ i. with_taken frames k.base (after p order) (taken_of frames k order) (sym s.1 i);
        at = omega arith;
        met = omega arith;
      }
  pull_server ss e (by_client a ∷ order) is l few knows =
      let last = learnt_last client_marks (client_of order) a in
      let r = pull_server ss e order is l.1 (omega (arith, few, last)) (λ plain. past_front client_marks (learnt server_marks ss) (client_of order) (a ∷ []) (knows plain)) in
      let q : TrackPoint = after p r.rest in
      let marks : (client_is_mark a || server_is_mark e) ≡ true = either (client_is_mark a) (server_is_mark e)
      (λ plain_a plain. (let past = past_last client_marks (learnt server_marks ss) (client_of order) a plain_a (knows plain) in
      let low = server_learnt p order l.1 in
      let same = ap (learnt server_marks) is in
      let less = learnt_more server_marks ss (e ∷ []) in
      let z : ⊥ = omega (arith, past, low, same, less) in z)) in
      let many = ap length r.server_is in
      record {
        rest = by_client a ∷ r.rest;
        legal = (client_before q (length (server_of order)) (length (server_of r.rest)) e a marks (omega (arith, few, last, many)) (subst (λ z. ClientMay z (length (server_of order)) a) (sym r.ends) l.0), r.legal);
        may = server_behind q (length (client_of r.rest)) (length (client_of r.rest ++ a ∷ [])) e a marks (let n = length-append (client_of r.rest) (a ∷ []) in omega (arith, n)) r.may;
        ends = sym (client_server q a e marks) ∙ ap (λ z. after_client z a) r.ends;
        client_is = ap (λ l. l ++ a ∷ []) r.client_is;
        server_is = r.server_is;
        hand_is = r.hand_is;
        taken_is = taken_same frames k.base (after_client q a) q (taken_of frames k r.rest) e (client_taken q a) ∙ r.taken_is;
        at = r.at;
        met = r.met;
      }
  pull_server ss e (by_hand a ∷ order) is l few knows =
      let r = pull_server ss e order is l.1 few knows in
      let q : TrackPoint = after p r.rest in
      let many = ap length r.client_is in
      let down = r.met in
      let back = r.at in
      let low = hand_met (length (client_of order)) (met_in order) (clients_at order) a l.0 in
      record {
        rest = by_hand a ∷ r.rest;
        legal = (hand_fewer (length (client_of order)) (length (client_of r.rest)) (met_in order) (met_in r.rest) (clients_at order) (clients_at r.rest) a l.0 (omega (arith, low, many, down)) back, r.legal);
        may = (server_by_hand q (length (client_of r.rest)) e a).0 r.may;
        ends = server_hand q e a ∙ ap (λ z. after_hand z a) r.ends;
        client_is = r.client_is;
        server_is = r.server_is;
        hand_is = ap (λ l. l ++ a ∷ []) r.hand_is;
        taken_is = taken_same frames k.base (after_hand q a) q (taken_of frames k r.rest) e (hand_consumed q a) ∙ r.taken_is;
        at = omega (arith, many);
        met = omega (arith, down);
      }

  -- ## The hand's last event

  pub pull_hand : (hs : List HandEvent) (e : HandEvent) (order : List Moment) → hand_of order ≡ hs ++ e ∷ [] → IsLegal p order
      → (hand_is_mark e ≡ false → KnowsAll hand_marks client_marks hs (client_of order))
      → Pulled k frames (by_hand e) (client_of order) (server_of order) hs order (λ rest. Unit {0})
  pull_hand hs e [] is l knows = let n : 0 ≡ length (hs ++ e ∷ []) = ap length is in absurd (let z : ⊥ = omega (arith, n, length-append hs (e ∷ [])) in z)
  pull_hand hs e (by_hand x ∷ order) is l knows =
      let s = same_from_push (hand_of order) hs x e is in
      record {
        rest = order;
        legal = l.1;
        may = tt;
        ends = λ i. after_hand (after p order) (sym s.1 i);
        client_is = refl;
        server_is = refl;
        hand_is = s.0;
        taken_is = refl;
        at = at_few order;
        met = omega arith;
      }
  pull_hand hs e (by_client a ∷ order) is l knows =
      let r = pull_hand hs e order is l.1 (λ plain. past_front client_marks (learnt hand_marks hs) (client_of order) (a ∷ []) (knows plain)) in
      let q : TrackPoint = after p r.rest in
      let marks : (client_is_mark a || hand_is_mark e) ≡ true = either (client_is_mark a) (hand_is_mark e)
      (λ plain_a plain. (let past = past_last client_marks (learnt hand_marks hs) (client_of order) a plain_a (knows plain) in
      let low = hand_learnt p order hs e is l.1 in
      let z : ⊥ = omega (arith, past, low) in z)) in
      record {
        rest = by_client a ∷ r.rest;
        legal = (client_before_hand q (length (server_of r.rest)) a e marks (subst (λ n. ClientMay (after_hand q e) n a) (ap length (sym r.server_is)) (subst (λ z. ClientMay z (length (server_of order)) a) (sym r.ends) l.0)), r.legal);
        may = tt;
        ends = sym (client_hand q a e marks) ∙ ap (λ z. after_client z a) r.ends;
        client_is = ap (λ l. l ++ a ∷ []) r.client_is;
        server_is = r.server_is;
        hand_is = r.hand_is;
        taken_is = r.taken_is;
        at = r.at;
        met = r.met;
      }
  pull_hand hs e (by_server a ∷ order) is l knows =
      let r = pull_hand hs e order is l.1 knows in
      let q : TrackPoint = after p r.rest in
      record {
        rest = by_server a ∷ r.rest;
        legal = ((server_by_hand q (length (client_of r.rest)) a e).1 (subst (λ n. ServerMay (after_hand q e) n a) (ap length (sym r.client_is)) (subst (λ z. ServerMay z (length (client_of order)) a) (sym r.ends) l.0)), r.legal);
        may = tt;
        ends = sym (server_hand q a e) ∙ ap (λ z. after_server z a) r.ends;
        client_is = r.client_is;
        server_is = ap (λ l. l ++ a ∷ []) r.server_is;
        hand_is = r.hand_is;
        taken_is = ap (λ t. with_taken frames k.base q t a) r.taken_is ∙ taken_same frames k.base q (after p order) (taken_of frames k order) a (sym (hand_consumed q e) ∙ ap (λ (z : TrackPoint). z.consumed) r.ends);
        at = r.at;
        met = r.met;
      }
