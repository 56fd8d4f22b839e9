-- What each step leaves of two ends that are told in phases.
use Rattle.std.proofs.Common.{◌≡◌, ◌≤◌, true, map, List, [], ◌∷◌, ◌++◌, length, sym, subst, arith, append_assoc, append-nil, length-append}
use Rattle.af_turn_law.proofs.Common.{Event, one, ones, two, twos, ones_more, twos_stay, twos_more, ones_stay, ones_met, twos_met}
use Rattle.af_turn_law.specs.Marking.{Marking, KnowsAll}
use Rattle.af_turn_law.specs.Phased.{IsPhasedFrom, IsPhased}
use Rattle.af_turn_law.proofs.Marked.{NoMarks, knows_more, knows_met, knows_now, due_plain, due_mark}

module _ {A B : Type 0} (ma : Marking A) (mb : Marking B) where
  abbrev pub OneKnows : List (Event A B) → Type 0
  OneKnows told = KnowsAll ma mb (ones told) (twos told)

  abbrev pub TwoKnows : List (Event A B) → Type 0
  TwoKnows told = KnowsAll mb ma (twos told) (ones told)

  -- how two ends stand between a meeting and what is done next
  pub record EndsReady (told : List (Event A B)) : Type 0 where
    pub phased : IsPhased ma mb told
    pub one_knows : OneKnows told
    pub two_knows : TwoKnows told

  pub new_ends : EndsReady []
  new_ends = record { phased = tt; one_knows = tt; two_knows = tt }

  phased_join : (xs : List A) (ys : List B) (es fs : List (Event A B)) → IsPhasedFrom ma mb xs ys es → IsPhasedFrom ma mb (xs ++ ones es) (ys ++ twos es) fs → IsPhasedFrom ma mb xs ys (es ++ fs)
  phased_join xs ys [] fs h more = subst (λ l. IsPhasedFrom ma mb l ys fs) (append-nil xs) (subst (λ l. IsPhasedFrom ma mb (xs ++ []) l fs) (append-nil ys) more)
  phased_join xs ys (one a ∷ es) fs h more = (h.0, phased_join (xs ++ a ∷ []) ys es fs h.1 (subst (λ l. IsPhasedFrom ma mb l (ys ++ twos es) fs) (sym (append_assoc xs (a ∷ []) (ones es))) more))
  phased_join xs ys (two b ∷ es) fs h more = (h.0, phased_join xs (ys ++ b ∷ []) es fs h.1 (subst (λ l. IsPhasedFrom ma mb (xs ++ ones es) l fs) (sym (append_assoc ys (b ∷ []) (twos es))) more))

  ones_phased : (xs : List A) (ys : List B) (ds : List A) → NoMarks ma ds → KnowsAll ma mb xs ys → IsPhasedFrom ma mb xs ys (map (λ a. one a) ds)
  ones_phased xs ys [] plain knows = tt
  ones_phased xs ys (a ∷ ds) plain knows = (due_plain ma mb xs ys a plain.0 knows, ones_phased (xs ++ a ∷ []) ys ds plain.1 (knows_more ma mb xs (a ∷ []) ys knows))

  twos_phased : (xs : List A) (ys : List B) (bs : List B) → NoMarks mb bs → KnowsAll mb ma ys xs → IsPhasedFrom ma mb xs ys (map (λ b. two b) bs)
  twos_phased xs ys [] plain knows = tt
  twos_phased xs ys (b ∷ bs) plain knows = (due_plain mb ma ys xs b plain.0 knows, twos_phased xs (ys ++ b ∷ []) bs plain.1 (knows_more mb ma ys (b ∷ []) xs knows))

  -- the order stays in phases if the first end did these events
  pub ones_done : (told : List (Event A B)) (ds : List A) → NoMarks ma ds → IsPhased ma mb told → OneKnows told → IsPhased ma mb (told ++ map (λ a. one a) ds) × OneKnows (told ++ map (λ a. one a) ds)
  ones_done told ds plain phased knows = (
    phased_join [] [] told (map (λ a. one a) ds) phased (ones_phased (ones told) (twos told) ds plain knows),
    subst (λ l. KnowsAll ma mb l (twos (told ++ map (λ a. one a) ds))) (sym (ones_more told ds))
        (subst (λ l. KnowsAll ma mb (ones told ++ ds) l) (sym (twos_stay told ds)) (knows_more ma mb (ones told) ds (twos told) knows)),
  )

  -- the order stays in phases if the second end did these events
  pub twos_done : (told : List (Event A B)) (bs : List B) → NoMarks mb bs → IsPhased ma mb told → TwoKnows told → IsPhased ma mb (told ++ map (λ b. two b) bs) × TwoKnows (told ++ map (λ b. two b) bs)
  twos_done told bs plain phased knows = (
    phased_join [] [] told (map (λ b. two b) bs) phased (twos_phased (ones told) (twos told) bs plain knows),
    subst (λ l. KnowsAll mb ma l (ones (told ++ map (λ b. two b) bs))) (sym (twos_more told bs))
        (subst (λ l. KnowsAll mb ma (twos told ++ bs) l) (sym (ones_stay told bs)) (knows_more mb ma (twos told) bs (ones told) knows)),
  )

  -- the ends are ready once they met
  pub ends_met : (told : List (Event A B)) (a : A) (b : B) → ma.is_mark a ≡ true → mb.is_mark b ≡ true → ma.named a ≡ length (twos told) → mb.named b ≡ length (ones told) → IsPhased ma mb told → EndsReady (told ++ one a ∷ two b ∷ [])
  ends_met told a b mark_a mark_b all_a all_b phased =
      let ones_are : ones (told ++ one a ∷ two b ∷ []) ≡ ones told ++ a ∷ [] = ones_met told a b in
      let twos_are : twos (told ++ one a ∷ two b ∷ []) ≡ twos told ++ b ∷ [] = twos_met told a b in
      let few_a : ma.named a ≤ length (twos told) = omega (arith, all_a) in
      let few_b : mb.named b ≤ length (ones told ++ a ∷ []) = let n = length-append (ones told) (a ∷ []) in omega (arith, all_b, n) in
      let one_now : KnowsAll ma mb (ones told ++ a ∷ []) (twos told) = knows_now ma mb (ones told) (twos told) a (omega (arith, all_a)) in
      let two_now : KnowsAll mb ma (twos told ++ b ∷ []) (ones told) = knows_now mb ma (twos told) (ones told) b (omega (arith, all_b)) in
      record {
        phased = phased_join [] [] told (one a ∷ two b ∷ []) phased (due_mark ma mb (ones told) (twos told) a mark_a few_a, (due_mark mb ma (twos told) (ones told ++ a ∷ []) b mark_b few_b, tt));
        one_knows = subst (λ l. KnowsAll ma mb l (twos (told ++ one a ∷ two b ∷ []))) (sym ones_are) (subst (λ l. KnowsAll ma mb (ones told ++ a ∷ []) l) (sym twos_are) (knows_met ma mb (ones told ++ a ∷ []) (twos told) b mark_b one_now));
        two_knows = subst (λ l. KnowsAll mb ma l (ones (told ++ one a ∷ two b ∷ []))) (sym twos_are) (subst (λ l. KnowsAll mb ma (twos told ++ b ∷ []) l) (sym ones_are) (knows_met mb ma (twos told ++ b ∷ []) (ones told) a mark_a two_now));
      }
