-- A mixer stays in order if one of its hands is replaced by another hand of the same block.
use Rattle.std.proofs.Common.{◌≡◌, ◌≢◌, ℕ, zero, suc, true≢false, is_some, List, length-set, slice_set, slice_get, slice_index_or, Some, ⊎_elim, refl, sym, ap, subst, ◌∙◌, arith}
use Rattle.af_normal.proofs.Common.{HandSide, Links, Made, cases_eq, get_or_from_slice_get, get_set_other, get_set_same, hand_made, slice_get_within}
use Rattle.af_normal.specs.Order.{IsInOrder}
use Rattle.af_normal.specs.State.{NormalState}

module _ (links : Links) (m : NormalState) (i : ℕ) (h : HandSide) (o : IsInOrder links m) (is : slice_get m.hands i ≡ Some h) where
  -- a hand that is there is of its track's block
  pub of_block : slice_get links.streams.now i ≡ Some (hand_made h)
  of_block = by_turns m.turns refl
    where
      by_turns : (n : ℕ) → m.turns ≡ n → slice_get links.streams.now i ≡ Some (hand_made h)
      by_turns zero e = absurd (true≢false (sym (ap is_some (sym (ap (λ (hs : List HandSide). slice_get hs i) (o.none_yet e).none) ∙ is))))
      by_turns (suc n) e = (o.hands (omega arith)).flags_of i h is

  -- the hand is made of the block that stands at its place
  pub block_is : (b : Made) → b ≡ slice_index_or links.streams.now i b → hand_made h ≡ b
  block_is b e = sym (get_or_from_slice_get links.streams.now i (hand_made h) b of_block) ∙ sym e

  -- another hand of that block may stand in its place
  pub hand_order : (g : HandSide) → hand_made g ≡ hand_made h → IsInOrder links (record m { hands = slice_set m.hands i g })
  hand_order g same = record {
    tied = record { sound = o.tied.sound; sizes = o.tied.sizes; proxies = o.tied.proxies; out = o.tied.out; linked = o.tied.linked };
    small = o.small;
    looks = o.looks;
    none_yet = (λ e. absurd (true≢false (sym (ap is_some (sym (ap (λ (hs : List HandSide). slice_get hs i) (o.none_yet e).none) ∙ is)))));
    hands = (λ z. let old = o.hands z in record {
      whole = length-set m.hands i g ∙ old.whole;
      flags_of = (λ j f at_j. ⊎_elim
          (λ (e : j ≡ i). subst (λ (n : ℕ). slice_get links.streams.now n ≡ Some (hand_made f)) (sym e)
          (of_block ∙ ap (λ (b : Made). Some b) (sym same ∙ ap hand_made (same_hand g f (sym (get_set_same m.hands i g (slice_get_within m.hands i h is)) ∙ ap (λ (n : ℕ). slice_get (slice_set m.hands i g) n) (sym e) ∙ at_j)))))
          (λ (ne : j ≢ i). old.flags_of j f (sym (get_set_other m.hands i j g ne) ∙ at_j))
          (cases_eq j i));
    });
    turns = o.turns;
    takes = o.takes;
    idle = o.idle;
  }
    where
      same_hand : (x y : HandSide) → Some x ≡ Some y → x ≡ y
      same_hand x y e = cc
