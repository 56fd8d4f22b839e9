-- The lists of a block's parties force the order in which they are told, if that is in phases.
use Rattle.std.proofs.Common.{◌≡◌, inl, inr, ℕ, ◌≤◌, true≢false, List, [], ◌∷◌, ◌++◌, length, refl, sym, ap, ◌∙◌, subst, arith, length-append}
use Rattle.af_turn_law.proofs.Common.{BlockTold, ClientMay, HasBlockHistory, IsHistoryAsTold, IsLegal, Moment, ServerMay, Shape, TrackPoint, after, after_client, after_hand, after_server, by_client, by_hand, by_server, client_of, hand_of, met_in, server_of, start, taken_of, with_taken}
use Rattle.af_base.specs.declared.event.HandEvent.TheVariants as hand
use Rattle.af_turn_law.specs.Marking.{learnt, KnowsAll, client_marks, server_marks, hand_marks, client_is_mark, server_is_mark, server_named, hand_is_mark}
use Rattle.af_turn_law.specs.Acting.{SawNoInvalid}
use Rattle.af_turn_law.specs.Phased.{IsBlockPhased, ends_met}
use Rattle.af_turn_law.proofs.Marked.{by_flag, learnt_last}
use Rattle.af_turn_law.proofs.SharedForced.{client_plain, server_plain}
use Rattle.af_turn_law.proofs.BlockPulls.{Pulled, ServerAllowed, met_learnt, pull_client, pull_server, pull_hand}
use Rattle.af_turn_law.proofs.InvalidPulls.{pull_invalid}

-- ## What was learnt in an order in phases was done before

phased_client : (told : List Moment) → IsBlockPhased told → learnt client_marks (client_of told) ≤ length (server_of told)
phased_client [] h = omega arith
phased_client (by_client e ∷ told) h =
    let r = phased_client told h.1 in
    let last = learnt_last client_marks (client_of told) e in
    elim (by_flag (client_is_mark e) h.0.0) [
      | inl (is, few) ↦ omega (arith, r, last, few)
      | inr (is, knows) ↦ (let none = client_plain e is in omega (arith, r, last, none))
    ]
phased_client (by_server e ∷ told) h = let r = phased_client told h.1 in let n = length-append (server_of told) (e ∷ []) in omega (arith, r, n)
phased_client (by_hand e ∷ told) h = phased_client told h.1

phased_server : (told : List Moment) → IsBlockPhased told → learnt server_marks (server_of told) ≤ length (client_of told)
phased_server [] h = omega arith
phased_server (by_server e ∷ told) h =
    let r = phased_server told h.1 in
    let last = learnt_last server_marks (server_of told) e in
    elim h.0 [
      | inl due ↦ elim (by_flag (server_is_mark e) due) [
        | inl (is, few) ↦ omega (arith, r, last, few)
        | inr (is, knows) ↦ (let none = server_plain e is in omega (arith, r, last, none))
      ]
      | inr (invalid, unseen) ↦ (let none : server_named e ≡ 0 = ap server_named invalid in omega (arith, r, last, none))
    ]
phased_server (by_client e ∷ told) h = let r = phased_server told h.1 in let n = length-append (client_of told) (e ∷ []) in omega (arith, r, n)
phased_server (by_hand e ∷ told) h = phased_server told h.1

pub phased_hand : (told : List Moment) → IsBlockPhased told → met_in told ≤ length (client_of told)
phased_hand [] h = omega arith
phased_hand (by_hand (hand.SetFlags bits) ∷ told) h = let r = phased_hand told h.1 in omega (arith, r)
phased_hand (by_hand (hand.Met k) ∷ told) h = let r = phased_hand told h.1 in let few = h.0.0 in omega (arith, r, few)
phased_hand (by_client e ∷ told) h = let r = phased_hand told h.1 in let n = length-append (client_of told) (e ∷ []) in omega (arith, r, n)
phased_hand (by_server e ∷ told) h = phased_hand told h.1

-- ## The law

none_left : (order : List Moment) → client_of order ≡ [] → server_of order ≡ [] → hand_of order ≡ [] → order ≡ []
none_left [] c s h = refl
none_left (by_client e ∷ order) c s h = let n : length (client_of order ++ e ∷ []) ≡ 0 = ap length c in absurd (let z : ⊥ = omega (arith, n, length-append (client_of order) (e ∷ [])) in z)
none_left (by_server e ∷ order) c s h = let n : length (server_of order ++ e ∷ []) ≡ 0 = ap length s in absurd (let z : ⊥ = omega (arith, n, length-append (server_of order) (e ∷ [])) in z)
none_left (by_hand e ∷ order) c s h = let n : length (hand_of order ++ e ∷ []) ≡ 0 = ap length h in absurd (let z : ⊥ = omega (arith, n, length-append (hand_of order) (e ∷ [])) in z)

-- the order told is legal, and leaves what the other one leaves
pub record Forced (k : Shape) (frames : List ℕ) (told order : List Moment) : Type 0 where
  pub legal : IsLegal (start k) told
  pub ends : after (start k) told ≡ after (start k) order
  pub taken : taken_of frames k told ≡ taken_of frames k order

pub forced : (k : Shape) (frames : List ℕ) (told order : List Moment) → IsBlockPhased told → IsLegal (start k) order → client_of order ≡ client_of told → server_of order ≡ server_of told → hand_of order ≡ hand_of told
    → Forced k frames told order
forced k frames [] order h l cs ss hs =
    let none = none_left order cs ss hs in
    record { legal = tt; ends = ap (after (start k)) (sym none); taken = ap (taken_of frames k) (sym none) }
forced k frames (by_client e ∷ told) order h l cs ss hs =
    let learnt_few = phased_server told h.1 in
    let same_learnt = ap (learnt server_marks) ss in
    let met_few = phased_hand told h.1 in
    let met_told = met_learnt told in
    let met_order = met_learnt order in
    let same_met = ap (learnt hand_marks) hs in
    let r = pull_client k frames (client_of told) e order cs l (omega (arith, learnt_few, same_learnt)) (omega (arith, met_few, met_told, met_order, same_met))
    (λ plain. (
      elim (by_flag (client_is_mark e) h.0.0) [
        | inl (is, few) ↦ absurd (true≢false (sym is ∙ plain))
        | inr (is, knows) ↦ subst (λ l. KnowsAll client_marks server_marks (client_of told) l) (sym ss) knows
      ],
      inl (ap ends_met hs ∙ h.0.1 plain),
    )) in
    let f = forced k frames told r.rest h.1 r.legal r.client_is (r.server_is ∙ ss) (r.hand_is ∙ hs) in
    record {
      legal = (subst (λ n. ClientMay (after (start k) told) n e) (ap length (r.server_is ∙ ss)) (subst (λ z. ClientMay z (length (server_of r.rest)) e) (sym f.ends) r.may), f.legal);
      ends = ap (λ z. after_client z e) f.ends ∙ r.ends;
      taken = f.taken ∙ r.taken_is;
    }
forced k frames (by_server e ∷ told) order h l cs ss hs =
    let learnt_few = phased_client told h.1 in
    let same_learnt = ap (learnt client_marks) cs in
    let r : Pulled k frames (by_server e) (client_of order) (server_of told) (hand_of order) order (ServerAllowed k frames e) = elim h.0 [
      | inl due ↦ pull_server k frames (server_of told) e order ss l (omega (arith, learnt_few, same_learnt))
          (λ plain. elim (by_flag (server_is_mark e) due) [
            | inl (is, few) ↦ absurd (true≢false (sym is ∙ plain))
            | inr (is, knows) ↦ subst (λ l. KnowsAll server_marks client_marks (server_of told) l) (sym cs) knows
          ])
      | inr (invalid, unseen) ↦ pull_invalid k frames (server_of told) e invalid order ss l (omega (arith, learnt_few, same_learnt)) (subst SawNoInvalid (sym cs) unseen)
    ] in
    let f = forced k frames told r.rest h.1 r.legal (r.client_is ∙ cs) r.server_is (r.hand_is ∙ hs) in
    record {
      legal = (subst (λ n. ServerMay (after (start k) told) n e) (ap length (r.client_is ∙ cs)) (subst (λ z. ServerMay z (length (client_of r.rest)) e) (sym f.ends) r.may), f.legal);
      ends = ap (λ z. after_server z e) f.ends ∙ r.ends;
      taken = (λ i. with_taken frames k.base (f.ends i) (f.taken i) e) ∙ r.taken_is;
    }
forced k frames (by_hand e ∷ told) order h l cs ss hs =
    let r = pull_hand k frames (hand_of told) e order hs l
    (λ plain. elim (by_flag (hand_is_mark e) h.0.0) [
      | inl (is, few) ↦ absurd (true≢false (sym is ∙ plain))
      | inr (is, knows) ↦ subst (λ l. KnowsAll hand_marks client_marks (hand_of told) l) (sym cs) knows
    ]) in
    let f = forced k frames told r.rest h.1 r.legal (r.client_is ∙ cs) (r.server_is ∙ ss) r.hand_is in
    record {
      legal = (h.0.1, f.legal);
      ends = ap (λ z. after_hand z e) f.ends ∙ r.ends;
      taken = f.taken ∙ r.taken_is;
    }

-- the history of a block that is told in phases is the one that is told
pub block_forced : (b : BlockTold) → IsBlockPhased b.told → HasBlockHistory b → IsHistoryAsTold b
block_forced b phased h =
    let f = forced b.shape b.released b.told h.order phased h.legal h.client_is h.server_is h.hand_is in (
      record {
        order = b.told;
        legal = f.legal;
        client_is = refl;
        server_is = refl;
        hand_is = refl;
        released_is = ap (λ (z : TrackPoint). z.released) f.ends ∙ h.released_is;
        taken_is = f.taken ∙ h.taken_is;
      },
      refl,
    )
