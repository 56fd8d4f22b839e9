-- From a legal order of a block's parties an INVALID of which the client sees nothing is taken to the end.
use Rattle.std.proofs.Common.{◌≡◌, inl, inr, ℕ, ◌/◌, ◌%◌, ◌≤◌, ◌==◌, bit_and, bit_or, List, [], ◌∷◌, ◌++◌, length, refl, sym, ap, ◌∙◌, subst, arith, length-append}
use Rattle.af_turn_law.proofs.Common.{ClientEvent, ClientMay, IsLegal, Moment, ServerEvent, Shape, TrackPoint, after, after_client, after_hand, after_server, by_client, by_hand, by_server, client_of, clients_at, hand_met, hand_of, met_in, same_from_push, server_of, start, taken_of, with_taken}
use Rattle.std.proofs.lemmas.Nat.{and_shr, and_mask, or_shr, or_mod, le_or_r}
use Rattle.af_base.specs.declared.event.ClientEvent.TheVariants as client
use Rattle.af_base.specs.declared.event.ServerEvent.TheVariants as server
use Rattle.af_turn_law.specs.Acting.{SeesNoInvalid, SawNoInvalid}
use Rattle.af_turn_law.specs.Marking.{learnt, client_marks, client_named}
use Rattle.af_turn_law.proofs.BlockPulls.{Pulled, ServerAllowed, hand_fewer}
use Rattle.af_turn_law.proofs.BlockSwaps.{server_hand}
use Rattle.af_turn_law.proofs.Marked.{by_flag, learnt_last}

-- once INVALID is set, the flags show it
shown : (flags : ℕ) → bit_and (bit_or flags 4) 4 ≡ 0 → ⊥
shown flags none =
    let set : bit_or flags 4 / 4 ≡ bit_or (flags / 4) 1 = or_shr flags 4 2 in
    let low : bit_or (flags / 4) 1 % 2 ≡ bit_or (flags / 4 % 2) 1 = or_mod (flags / 4) 1 1 in
    let one = le_or_r (flags / 4 % 2) 1 in
    let seen : bit_and (bit_or flags 4) 4 / 4 ≡ bit_and (bit_or flags 4 / 4) 1 = and_shr (bit_or flags 4) 4 2 in
    let last : bit_and (bit_or flags 4 / 4) 1 ≡ bit_or flags 4 / 4 % 2 = and_mask (bit_or flags 4 / 4) 1 in
    omega (arith, none, set, low, one, seen, last)

-- the client's event that sees no INVALID comes before INVALID is set, and leaves the same
record Passes (q : TrackPoint) (n : ℕ) (a : ClientEvent) : Type 0 where
  may : ClientMay q n a
  ends : after_client (after_server q (server.SetFlags 4)) a ≡ after_server (after_client q a) (server.SetFlags 4)

client_passes : (q : TrackPoint) (m n : ℕ) (a : ClientEvent) → SeesNoInvalid a → client_named a ≤ n → ClientMay (after_server q (server.SetFlags 4)) m a → Passes q n a
client_passes q m n (client.Learn k) unseen few h = record { may = few; ends = refl }
client_passes q m n (client.Release count) unseen few h = record { may = h; ends = refl }
client_passes q m n client.Flush unseen few h = record { may = h; ends = refl }
client_passes q m n (client.SetGain word) unseen few h = record { may = h; ends = refl }
client_passes q m n (client.ClearFlags old) unseen few h = absurd (shown q.flags (ap (λ flags. bit_and flags 4) (sym h) ∙ unseen))
client_passes q m n (client.SawFlags flags) unseen few h = elim (by_flag (bit_and flags 4 == 0) h) [
  | inl (is, none) ↦ absurd (shown q.flags none)
  | inr (is, same) ↦ absurd (shown q.flags (ap (λ flags. bit_and flags 4) (sym same) ∙ unseen))
]
client_passes q m n (client.SawFront front) unseen few h = record { may = h; ends = refl }
client_passes q m n (client.SawStatus word) unseen few h = record { may = h; ends = refl }
client_passes q m n (client.Poke word value) unseen few h = absurd h

unseen_push : (xs : List ClientEvent) (x : ClientEvent) → SawNoInvalid (xs ++ x ∷ []) → SawNoInvalid xs × SeesNoInvalid x
unseen_push [] x h = (tt, h.0)
unseen_push (y ∷ xs) x h = let r = unseen_push xs x h.1 in ((h.0, r.0), r.1)

module _ (k : Shape) (frames : List ℕ) where
  abbrev p : TrackPoint
  p = start k

  pull_it : (ss : List ServerEvent) (order : List Moment) → server_of order ≡ ss ++ server.SetFlags 4 ∷ [] → IsLegal p order → learnt client_marks (client_of order) ≤ length ss → SawNoInvalid (client_of order)
      → Pulled k frames (by_server (server.SetFlags 4)) (client_of order) ss (hand_of order) order (ServerAllowed k frames (server.SetFlags 4))
  pull_it ss [] is l few unseen = let n : 0 ≡ length (ss ++ server.SetFlags 4 ∷ []) = ap length is in absurd (let z : ⊥ = omega (arith, n, length-append ss (server.SetFlags 4 ∷ [])) in z)
  pull_it ss (by_server x ∷ order) is l few unseen =
      let s = same_from_push (server_of order) ss x (server.SetFlags 4) is in
      record {
        rest = order;
        legal = l.1;
        may = tt;
        ends = λ i. after_server (after p order) (sym s.1 i);
        client_is = refl;
        server_is = s.0;
        hand_is = refl;
        taken_is = λ i. with_taken frames k.base (after p order) (taken_of frames k order) (sym s.1 i);
        at = omega arith;
        met = omega arith;
      }
  pull_it ss (by_client a ∷ order) is l few unseen =
      let last = learnt_last client_marks (client_of order) a in
      let before = unseen_push (client_of order) a unseen in
      let r = pull_it ss order is l.1 (omega (arith, few, last)) before.0 in
      let q : TrackPoint = after p r.rest in
      let many = ap length r.server_is in
      let passes = client_passes q (length (server_of order)) (length (server_of r.rest)) a before.1 (omega (arith, few, last, many)) (subst (λ z. ClientMay z (length (server_of order)) a) (sym r.ends) l.0) in
      record {
        rest = by_client a ∷ r.rest;
        legal = (passes.may, r.legal);
        may = tt;
        ends = sym passes.ends ∙ ap (λ z. after_client z a) r.ends;
        client_is = ap (λ l. l ++ a ∷ []) r.client_is;
        server_is = r.server_is;
        hand_is = r.hand_is;
        taken_is = r.taken_is;
        at = r.at;
        met = r.met;
      }
  pull_it ss (by_hand a ∷ order) is l few unseen =
      let r = pull_it ss order is l.1 few unseen in
      let many = ap length r.client_is in
      let down = r.met in
      let low = hand_met (length (client_of order)) (met_in order) (clients_at order) a l.0 in
      record {
        rest = by_hand a ∷ r.rest;
        legal = (hand_fewer (length (client_of order)) (length (client_of r.rest)) (met_in order) (met_in r.rest) (clients_at order) (clients_at r.rest) a l.0 (omega (arith, low, many, down)) r.at, r.legal);
        may = tt;
        ends = server_hand (after p r.rest) (server.SetFlags 4) a ∙ ap (λ z. after_hand z a) r.ends;
        client_is = r.client_is;
        server_is = r.server_is;
        hand_is = ap (λ l. l ++ a ∷ []) r.hand_is;
        taken_is = r.taken_is;
        at = omega (arith, many);
        met = omega (arith, down);
      }

  pub pull_invalid : (ss : List ServerEvent) (e : ServerEvent) → e ≡ server.SetFlags 4 → (order : List Moment) → server_of order ≡ ss ++ e ∷ [] → IsLegal p order → learnt client_marks (client_of order) ≤ length ss → SawNoInvalid (client_of order)
      → Pulled k frames (by_server e) (client_of order) ss (hand_of order) order (ServerAllowed k frames e)
  pull_invalid ss e invalid order is l few unseen =
      subst (λ x. Pulled k frames (by_server x) (client_of order) ss (hand_of order) order (ServerAllowed k frames x)) (sym invalid) (pull_it ss order (is ∙ ap (λ x. ss ++ x ∷ []) invalid) l few unseen)
