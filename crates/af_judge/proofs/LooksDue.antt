-- Whether looks are due, by those that were gone over.
use Rattle.std.proofs.Common.{◌≡◌, ℕ, suc, ◌+◌, ◌-◌, ◌<◌, ◌≤◌, ◌==◌, Bool, true, false, if◌then◌else◌, sym, refl, ap, ◌∙◌, subst, List, [], ◌∷◌, append-nil, length, take, drop, get_or, Option, zero, arith, length-take-le, drop-cons}
use Rattle.af_judge.proofs.Common.{CommandLook, TrackKept, after_all, all_go_on, are_due, are_due-go, goes_on, length-drop, nat_tests, take-append-drop, take_all, take_more}
use Rattle.af_life.specs.Obeys.{after_look}
use Rattle.af_life.proofs.LooksSoFar.{after-push, still_on}
use Rattle.af_life.proofs.Settles.{settles_one}

last : (made n left : ℕ) → made < n → left ≡ n - suc made → (left == 0) ≡ (made + 1 == n)
last made n left lt e = grind (arith, nat_tests, lt, e)

whole : (n left : ℕ) → 64 ≡ n + left → (left == 0) ≡ (n == 64)
whole n left e = grind (arith, nat_tests, e)

module _ (given : Option ℕ) (flush_seen : ℕ) where
  pub settles_more : (look : CommandLook) (t u : TrackKept) → u ≡ after_look given flush_seen look t → u.settled ≤ t.settled + 1
  settles_more look t u e = let a = ap (λ (x : TrackKept). x.settled) e in let b = settles_one given flush_seen look t in omega (arith, a, b)

  module _ (looks : List CommandLook) (s : TrackKept) (made : ℕ) (none : CommandLook) (there : made < length looks) where
    so_far : (n : ℕ) → all_go_on given flush_seen (take made looks) s ≡ true
        → are_due (made + n) given flush_seen looks s ≡ are_due n given flush_seen (get_or looks made none ∷ drop (suc made) looks) (after_all given flush_seen s (take made looks))
    so_far n h =
        let l : length (take made looks) ≡ made = length-take-le made looks (omega (arith, there)) in
        ap (λ (k : ℕ). are_due (k + n) given flush_seen looks s) (sym l)
        ∙ ap (λ (xs : List CommandLook). are_due (length (take made looks) + n) given flush_seen xs s) (sym (take-append-drop made looks))
        ∙ are_due-go given flush_seen n (take made looks) (drop made looks) s h
        ∙ ap (λ (xs : List CommandLook). are_due n given flush_seen xs (after_all given flush_seen s (take made looks))) (drop-cons looks made none there)

    -- looks beyond the last that may be made are not due
    pub none_beyond : made ≡ 64 → all_go_on given flush_seen (take made looks) s ≡ true → are_due 64 given flush_seen looks s ≡ false
    none_beyond e h = let f : 64 ≡ made + 0 = omega (arith, e) in ap (λ (k : ℕ). are_due k given flush_seen looks s) f ∙ so_far 0 h

    -- `t` is the track before the look, and `u` the one after it
    module _ (t u : TrackKept) (all : all_go_on given flush_seen (take made looks) s ≡ true) (before : t ≡ after_all given flush_seen s (take made looks)) (after : u ≡ after_look given flush_seen (get_or looks made none) t) where
      now : u ≡ after_look given flush_seen (get_or looks made none) (after_all given flush_seen s (take made looks))
      now = after ∙ ap (after_look given flush_seen (get_or looks made none)) before

      -- one look more goes on
      pub one_on : goes_on (get_or looks made none) u ≡ true → all_go_on given flush_seen (take (made + 1) looks) s ≡ true
      one_on on = subst (λ (xs : List CommandLook). all_go_on given flush_seen xs s ≡ true) (sym (take_more looks made none there))
          (still_on given flush_seen s (take made looks) (get_or looks made none) all (ap (goes_on (get_or looks made none)) (sym now) ∙ on))

      pub one_after : u ≡ after_all given flush_seen s (take (made + 1) looks)
      one_after = now ∙ sym (ap (after_all given flush_seen s) (take_more looks made none there) ∙ after-push given flush_seen s (take made looks) (get_or looks made none))

      -- looks after one that ends them are not due
      pub stops_there : made < 64 → goes_on (get_or looks made none) u ≡ false → are_due 64 given flush_seen looks s ≡ (made + 1 == length looks)
      stops_there few off =
          let left : ℕ = 63 - made in
          let f : 64 ≡ made + suc left = omega (arith, few) in
          let x : TrackKept = after_look given flush_seen (get_or looks made none) (after_all given flush_seen s (take made looks)) in
          let off' : goes_on (get_or looks made none) x ≡ false = ap (goes_on (get_or looks made none)) (sym now) ∙ off in
          ap (λ (k : ℕ). are_due k given flush_seen looks s) f ∙ so_far (suc left) all
          ∙ ap (λ (b : Bool). if b then are_due left given flush_seen (drop (suc made) looks) x else length (drop (suc made) looks) == 0) off'
          ∙ last made (length looks) (length (drop (suc made) looks)) there (length-drop (suc made) looks)

  -- if all go on, the last that may be made is due
  pub all_made : (looks : List CommandLook) (s : TrackKept) (made : ℕ) → length looks ≤ made → made ≤ 64 → all_go_on given flush_seen (take made looks) s ≡ true → are_due 64 given flush_seen looks s ≡ (length looks == 64)
  all_made looks s made le few h =
      let left : ℕ = 64 - length looks in
      let f : 64 ≡ length looks + left = omega (arith, le, few) in
      let all : all_go_on given flush_seen looks s ≡ true = subst (λ (xs : List CommandLook). all_go_on given flush_seen xs s ≡ true) (take_all made looks le) h in
      ap (λ (k : ℕ). are_due k given flush_seen looks s) f
      ∙ ap (λ (xs : List CommandLook). are_due (length looks + left) given flush_seen xs s) (sym (append-nil looks))
      ∙ are_due-go given flush_seen left looks [] s all ∙ none_left left (after_all given flush_seen s looks) ∙ whole (length looks) left f
    where
      none_left : (n : ℕ) (t : TrackKept) → are_due n given flush_seen [] t ≡ (n == 0)
      none_left zero t = refl
      none_left (suc n) t = grind (arith, nat_tests)
