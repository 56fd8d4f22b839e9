-- Two ends of which each leaves a half of the point: which order of their steps is legal, and which counts of the first end's steps may have stood.
use Rattle.std.specs.Prelude.{◌≡◌, ◌↔◌, ℕ, ◌+◌, ◌≤◌, Bool, false, IsTrue, fold, List, length, take, slice_index_or}
use Rattle.af_model.specs.Order.{Event, one, two, HasOrder}

-- the halves that both ends leave
pub record Ends (M O : Type 0) : Type 0 where
  pub first : M
  pub second : O

module _ {M O A B : Type 0} (legal : Ends M O → Event A B → Type 0) (first_after : M → A → M) (second_after : O → B → O) where
  -- each step changes its own end's half
  abbrev pub ends_next : Ends M O → Event A B → Ends M O
  ends_next p (one a) = record { first = first_after p.first a; second = p.second }
  ends_next p (two b) = record { first = p.first; second = second_after p.second b }

  -- the halves after these steps of both
  abbrev pub ends_after : Ends M O → List A → List B → Ends M O
  ends_after p xs ys = record { first = fold first_after p.first xs; second = fold second_after p.second ys }

  -- some order of both ends' steps is legal
  abbrev pub HasEndsOrder : Ends M O → List A → List B → Type 0
  HasEndsOrder p xs ys = HasOrder legal ends_next p xs ys

  -- For each count of the first end's steps: whether so many of them, with all these steps of the second end, stand in some legal order
  pub record AreOpen (p : Ends M O) (xs : List A) (ys : List B) (open_counts : List Bool) : Type 0 where
    pub each : length open_counts ≡ length xs + 1
    pub is_open : (i : ℕ) → i ≤ length xs → IsTrue (slice_index_or open_counts i false) ↔ HasEndsOrder p (take i xs) ys
