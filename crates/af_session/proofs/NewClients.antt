-- The clients of the ends of a mixer.
use Rattle.std.proofs.Common.{◌≡◌, ℕ, ◌<◌, ◌⊎◌, inl, inr, List, [], ◌∷◌, ◌++◌, length, slice_get, Some, sym, ◌∙◌, subst, arith}
use Rattle.af_session.proofs.Common.{AreNewClients, IsClientOf, PartyState, TrackEnds, at_before, at_last, cases_eq, length-append, same_Some, slice_get_within, some_at}

-- one client more, with its ends
module _ (ends : List TrackEnds) (clients : List PartyState) (e : TrackEnds) (p : PartyState) (before : AreNewClients ends clients) (one : IsClientOf e p) where
  each_at : (i : ℕ) (d : TrackEnds) (q : PartyState) → (i ≡ length ends) ⊎ (i ≡ length ends → ⊥) → i < length (ends ++ e ∷ []) → slice_get (ends ++ e ∷ []) i ≡ Some d → slice_get (clients ++ p ∷ []) i ≡ Some q → IsClientOf d q
  each_at i d q (inl same) lt at_d at_q =
      let first : e ≡ d = same_Some e d (sym (at_last ends e i (sym same)) ∙ at_d) in
      let second : p ≡ q = same_Some p q (sym (at_last clients p i (before.count ∙ sym same)) ∙ at_q) in
      subst (λ (y : TrackEnds × PartyState). IsClientOf y.0 y.1) (λ j. (first j, second j)) one
  each_at i d q (inr other) lt at_d at_q =
      let long = length-append ends (e ∷ []) in
      let count = before.count in
      let d' = some_at ends i (omega (arith, lt, long, other)) in
      let q' = some_at clients i (omega (arith, lt, long, other, count)) in
      let first : d'.0 ≡ d = same_Some d'.0 d (sym (at_before ends (e ∷ []) i d'.0 d'.1) ∙ at_d) in
      let second : q'.0 ≡ q = same_Some q'.0 q (sym (at_before clients (p ∷ []) i q'.0 q'.1) ∙ at_q) in
      subst (λ (y : TrackEnds × PartyState). IsClientOf y.0 y.1) (λ j. (first j, second j)) (before.each i d'.0 q'.0 d'.1 q'.1)

  pub one_client_more : AreNewClients (ends ++ e ∷ []) (clients ++ p ∷ [])
  one_client_more = record {
    count = omega (arith, before.count, length-append ends (e ∷ []), length-append clients (p ∷ []));
    each = λ i d q at_d at_q. each_at i d q (cases_eq i (length ends)) (slice_get_within (ends ++ e ∷ []) i d at_d) at_d at_q;
  }
