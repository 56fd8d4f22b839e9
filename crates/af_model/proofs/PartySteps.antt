-- How the parts and the order of two parties fare by one step.
use Rattle.std.proofs.Common.{◌≡◌, ◌≢◌, ℕ, Bool, true, false, List, [], ◌∷◌, ◌++◌, length, set, ap, sym, ◌∙◌, subst}
use mathlib.Core.Option.{some}
use lib.ListN.{get_elem?}
use Rattle.af_model.specs.Order.{Event, one, two, point_after}
use Rattle.af_model.specs.Parties.{AreHeld, Stands}
use Rattle.af_model.proofs.Orders.{after_end, add_one, add_two}
use Rattle.af_model.proofs.Holds.{mine, same, none, joined_none, moved, taken}

module _ {V A B : Type 0} (has_one : V → Bool) (one_of : V → A) (has_two : V → Bool) (two_of : V → B) (views : List V) (a : A) (b : B) (h : AreHeld has_one one_of has_two two_of views a b) where
  abbrev Now : List V → A → B → Type 0
  Now = AreHeld has_one one_of has_two two_of

  module _ (id : ℕ) (v : V) (here : get_elem? views id ≡ some v) where
    -- the first party's part changes
    pub one_changes : (w : V) (x : A) → has_one v ≡ true → one_of w ≡ x → has_two w ≡ has_two v → two_of w ≡ two_of v → Now (set views id w) x b
    one_changes w x own is keeps_has keeps = record {
      one_at = id;
      two_at = h.two_at;
      one_held = mine has_one one_of views h.one_at id a x v w h.one_held here own is;
      two_held = same has_two two_of views h.two_at id b v w h.two_held here keeps_has keeps;
    }

    -- the second party's part changes
    pub two_changes : (w : V) (y : B) → has_two v ≡ true → two_of w ≡ y → has_one w ≡ has_one v → one_of w ≡ one_of v → Now (set views id w) a y
    two_changes w y own is keeps_has keeps = record {
      one_at = h.one_at;
      two_at = id;
      one_held = same has_one one_of views h.one_at id a v w h.one_held here keeps_has keeps;
      two_held = mine has_two two_of views h.two_at id b y v w h.two_held here own is;
    }

    -- a seat that has both parts changes both
    pub both_change : (w : V) (x : A) (y : B) → has_one v ≡ true → has_two v ≡ true → one_of w ≡ x → two_of w ≡ y → Now (set views id w) x y
    both_change w x y own_one own_two is_one is_two = record {
      one_at = id;
      two_at = id;
      one_held = mine has_one one_of views h.one_at id a x v w h.one_held here own_one is_one;
      two_held = mine has_two two_of views h.two_at id b y v w h.two_held here own_two is_two;
    }

    -- the second part goes to a new seat
    pub two_leaves : (left right : V) → has_two v ≡ true → has_one left ≡ has_one v → one_of left ≡ one_of v → has_two left ≡ false → has_one right ≡ false → two_of right ≡ two_of v → Now (set views id left ++ right ∷ []) a b
    two_leaves left right own keeps_has keeps lacks_two lacks_one is = record {
      one_at = h.one_at;
      two_at = length (set views id left);
      one_held = joined_none has_one one_of (set views id left) h.one_at a right (same has_one one_of views h.one_at id a v left h.one_held here keeps_has keeps) lacks_one;
      two_held = moved has_two two_of views h.two_at id b v left right h.two_held here own lacks_two is;
    }

    -- the second part comes from the seat `other`, which is spent
    pub two_comes : (other : ℕ) (w both spent : V) → other ≢ id → get_elem? (set views id both) other ≡ some w → has_two w ≡ true → has_one both ≡ has_one v → one_of both ≡ one_of v → two_of both ≡ two_of w → has_one spent ≡ false → has_two spent ≡ false
        → Now (set (set views id both) other spent) a b
    two_comes other w both spent apart there own keeps_has keeps is lacks_one lacks_two = record {
      one_at = h.one_at;
      two_at = id;
      one_held = none has_one one_of (set views id both) h.one_at other a spent (same has_one one_of views h.one_at id a v both h.one_held here keeps_has keeps) lacks_one;
      two_held = taken has_two two_of views h.two_at id other b w both spent h.two_held apart there own is lacks_two;
    }

module _ {P A B : Type 0} (legal : P → Event A B → Type 0) (next : P → Event A B → P) (p : P) (xs : List A) (ys : List B) (s : Stands legal next p xs ys) where
  -- an event that is legal at the point is legal after the order
  pub at_point : (e : Event A B) → legal s.point e → legal (point_after legal next p s.history.order) e
  at_point e l = subst (λ (q : P). legal q e) (sym s.point_is) l

  pub point_more : (e : Event A B) → point_after legal next p (s.history.order ++ e ∷ []) ≡ next s.point e
  point_more e = after_end legal next p s.history.order e ∙ ap (λ q. next q e) s.point_is

  -- one event more of the first party
  abbrev pub stand_one : (a : A) → legal s.point (one a) → Stands legal next p (xs ++ a ∷ []) ys
  stand_one a l = record { history = add_one legal next p xs ys a s.history (at_point (one a) l); point = next s.point (one a); point_is = point_more (one a) }

  -- one event more of the second party
  abbrev pub stand_two : (b : B) → legal s.point (two b) → Stands legal next p xs (ys ++ b ∷ [])
  stand_two b l = record { history = add_two legal next p xs ys b s.history (at_point (two b) l); point = next s.point (two b); point_is = point_more (two b) }
