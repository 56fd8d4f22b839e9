-- What the rules of tables with two parties share: who has which part, and the order of the events so far.
use Rattle.std.specs.Prelude.{◌≡◌, ℕ, Bool, List}
use Rattle.af_model.specs.Order.{Event, point_after, HasOrder}
use Rattle.af_model.specs.Held.{Held}

-- each of the two parts is with one seat alone
pub record AreHeld {V A B : Type 0} (has_one : V → Bool) (one_of : V → A) (has_two : V → Bool) (two_of : V → B) (views : List V) (a : A) (b : B) : Type 0 where
  pub one_at : ℕ
  pub two_at : ℕ
  pub one_held : Held has_one one_of views one_at a
  pub two_held : Held has_two two_of views two_at b

-- the two lists have a legal order from the point p on, which leaves this point
pub record Stands {P A B : Type 0} (legal : P → Event A B → Type 0) (next : P → Event A B → P) (p : P) (xs : List A) (ys : List B) : Type 0 where
  pub history : HasOrder legal next p xs ys
  pub point : P
  pub point_is : point_after legal next p history.order ≡ point
