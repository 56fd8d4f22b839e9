-- After a poll the observer has the item of each slot that is on, and gives back those of slots that went off.
use Rattle.std.proofs.Common.{◌≡◌, ℕ, ◌<◌, ◌&&◌, ◌||◌, not, if◌then◌else◌, Bool, true, false, List, length, Option, Some, is_some, refl, ap, sym, ◌∙◌, subst}
use Rattle.af_stateq.proofs.Common.{AreOf, FastState, FastTrack, FitAt, IsState, and_true, carries, has, slot_of, slots}
use Rattle.af_stateq.specs.Mutates.{at}
use Rattle.af_stateq.specs.Observes.{IsSettled}

module _ {P : Type 0} where
  held_one : (a b : Bool) (r it it' : Option P) → is_some r ≡ (a && not b) → is_some it ≡ b → it' ≡ (if ((a && not b) || not a) then r else it) → is_some it' ≡ a
  held_one true true r it it' hr hi e = ap is_some e ∙ hi
  held_one true false r it it' hr hi e = ap is_some e ∙ hr
  held_one false b r it it' hr hi e = ap is_some e ∙ hr

  given_one : (a b : Bool) (r it r' : Option P) → is_some r ≡ (a && not b) → is_some it ≡ b → r' ≡ (if ((a && not b) || not a) then it else r) → is_some r' ≡ (b && not a)
  given_one true true r it r' hr hi e = ap is_some e ∙ hr
  given_one true false r it r' hr hi e = ap is_some e ∙ hi
  given_one false b r it r' hr hi e = ap is_some e ∙ hi ∙ sym (and_true b)

  module _ (x c : FastState) (items moving items' moving' : List (Option P)) (all : (i : ℕ) → i < slots → has items i ≡ carries c i) (of : AreOf x c moving)
      (each : (i : ℕ) → i < slots → IsSettled x items moving items' moving' i) where
    now : (i : ℕ) (lt : i < slots) → at items' i ≡ (if ((carries x i && not (carries c i)) || not (carries x i)) then at moving i else at items i)
    now i lt = (each i lt).0 ∙ ap (λ (b : Bool). if (b || not (carries x i)) then at moving i else at items i) (of.1 i lt)

    back : (i : ℕ) (lt : i < slots) → at moving' i ≡ (if ((carries x i && not (carries c i)) || not (carries x i)) then at items i else at moving i)
    back i lt = (each i lt).1 ∙ ap (λ (b : Bool). if (b || not (carries x i)) then at items i else at moving i) (of.1 i lt)

    pub holds_all : (i : ℕ) → i < slots → has items' i ≡ carries x i
    holds_all i lt = held_one (carries x i) (carries c i) (at moving i) (at items i) (at items' i) (of.1 i lt) (all i lt) (now i lt)

    pub gives_back : length moving' ≡ slots → IsState c → AreOf c x moving'
    gives_back long state = (
      long,
      (λ i lt. given_one (carries x i) (carries c i) (at moving i) (at items i) (at moving' i) (of.1 i lt) (all i lt) (back i lt)),
      (λ i lt a b. sym (of.2 i lt b a)),
      state,
    )

    module _ {K : Type 0} (fits : K → ℕ → P → Type 0) (o : Option K) (fit_new : FitAt fits o x moving) (fit_old : FitAt fits o c items) where
      fit_one : (key : K) (k : o ≡ Some key) (i : ℕ) (lt : i < slots) (p : P) (a b : Bool) → carries x i ≡ a → carries c i ≡ b → at items' i ≡ (if ((a && not b) || not a) then at moving i else at items i) → at items' i ≡ Some p → fits key (slot_of x i).track p
      fit_one key k i lt p true true oa ob e is = subst (λ (t : FastTrack). fits key t.track p) (sym (of.2 i lt oa ob)) (fit_old key k i p lt (sym e ∙ is))
      fit_one key k i lt p true false oa ob e is = fit_new key k i p lt (sym e ∙ is)
      fit_one key k i lt p false b oa ob e is = fit_new key k i p lt (sym e ∙ is)

      pub fits_all : FitAt fits o x items'
      fits_all key k i p lt is = fit_one key k i lt p (carries x i) (carries c i) refl refl (now i lt) is

      back_one : (key : K) (k : o ≡ Some key) (i : ℕ) (lt : i < slots) (p : P) (a b : Bool) → carries x i ≡ a → carries c i ≡ b → at moving' i ≡ (if ((a && not b) || not a) then at items i else at moving i) → at moving' i ≡ Some p → fits key (slot_of c i).track p
      back_one key k i lt p true true oa ob e is = subst (λ (t : FastTrack). fits key t.track p) (of.2 i lt oa ob) (fit_new key k i p lt (sym e ∙ is))
      back_one key k i lt p true false oa ob e is = fit_old key k i p lt (sym e ∙ is)
      back_one key k i lt p false b oa ob e is = fit_old key k i p lt (sym e ∙ is)

      pub fits_back : FitAt fits o c moving'
      fits_back key k i p lt is = back_one key k i lt p (carries x i) (carries c i) refl refl (back i lt) is
