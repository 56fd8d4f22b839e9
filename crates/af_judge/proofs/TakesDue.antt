-- The tracks of takes, and those that are due.
use Rattle.std.proofs.Common.{◌≡◌, ◌↔◌, ℕ, zero, suc, ◌+◌, ◌-◌, ◌<◌, ◌≤◌, ◌==◌, Bool, false, IsTrue, refl, sym, ap, ◌∙◌, List, [], ◌∷◌, length, map, true≢false, eqb-true, eq-eqb, arith}
use Rattle.af_judge.proofs.Common.{NormalTake, TakeSeen, TrackKept, filter, is_mixed_here, mixed_here, range_with_len, take_seen, track_at}
use Rattle.af_judge.specs.NormalChanges.{tracks_from, with_due}

-- the takes as a turn has them
pub all_tracks : (takes : List NormalTake) → map (λ (t : TakeSeen). t.track) (map take_seen takes) ≡ tracks_from takes 0
all_tracks [] = refl
all_tracks (t ∷ takes) = ap (λ (ns : List ℕ). t.track ∷ ns) (all_tracks takes)

-- the tracks that are due from a track on
abbrev pub due_from : List TrackKept → ℕ → List ℕ
due_from tracks i = filter (λ i. is_mixed_here (track_at tracks i)) (range_with_len i (length tracks - i))

-- the tracks that are due from a track on are this one, if it is due, and those after it
pub first_due : (tracks : List TrackKept) (i : ℕ) → i < length tracks → due_from tracks i ≡ with_due (is_mixed_here (track_at tracks i)) i (due_from tracks (i + 1))
first_due tracks i lt =
    let m : ℕ = length tracks - (i + 1) in
    let is : length tracks - i ≡ suc m = omega (arith, lt) in
    ap (λ (n : ℕ). filter (λ i. is_mixed_here (track_at tracks i)) (range_with_len i n)) is

pub none_due : (tracks : List TrackKept) (i : ℕ) → length tracks ≤ i → due_from tracks i ≡ []
none_due tracks i le = let is : length tracks - i ≡ 0 = omega (arith, le) in ap (λ (n : ℕ). filter (λ i. is_mixed_here (track_at tracks i)) (range_with_len i n)) is

cons_is_some : {A : Type 0} (x : A) (xs : List A) → x ∷ xs ≡ [] → ⊥
cons_is_some x xs e = let l : suc (length xs) ≡ 0 = ap (λ ys. length ys) e in absurd (omega (arith, l))

-- no take is left
pub none_left : (takes : List NormalTake) (next : ℕ) → next ≤ length takes → (tracks_from takes next ≡ []) ↔ IsTrue (next == length takes)
none_left [] zero le = ((λ e. refl), (λ t. refl))
none_left [] (suc next) le = absurd (omega (arith, le))
none_left (t ∷ takes) zero le = ((λ e. absurd (cons_is_some _ _ e)), (λ x. let h : 0 ≡ suc (length takes) = eqb-true 0 (suc (length takes)) x in absurd (omega (arith, h))))
none_left (t ∷ takes) (suc next) le =
    let rest = none_left takes next (omega (arith, le)) in (
      (λ e. eq-eqb (suc next) (suc (length takes)) (ap suc (eqb-true next (length takes) (rest.0 e)))),
      (λ x. let h : suc next ≡ suc (length takes) = eqb-true (suc next) (suc (length takes)) x in rest.1 (eq-eqb next (length takes) (omega (arith, h)))),
    )

module _ (takes : List NormalTake) (tracks : List TrackKept) (next i : ℕ) (due : Bool) (left : (tracks_from takes 0 ≡ mixed_here tracks) ↔ (tracks_from takes next ≡ due_from tracks i)) where
  -- the tracks that are due from this one on, whether it is due or not
  now_due : i < length tracks → due ≡ is_mixed_here (track_at tracks i) → due_from tracks i ≡ with_due due i (due_from tracks (i + 1))
  now_due lt is = first_due tracks i lt ∙ ap (λ (b : Bool). with_due b i (due_from tracks (i + 1))) (sym is)

  pub goes_by : (after : ℕ) → i < length tracks → due ≡ is_mixed_here (track_at tracks i)
      → ((others : List ℕ) → (tracks_from takes next ≡ with_due due i others) ↔ (tracks_from takes after ≡ others)) → (tracks_from takes 0 ≡ mixed_here tracks) ↔ (tracks_from takes after ≡ due_from tracks (i + 1))
  goes_by after lt is step =
      let now = now_due lt is in
      let one = step (due_from tracks (i + 1)) in
      ((λ e. one.0 (left.0 e ∙ now)), (λ e. left.1 (one.1 e ∙ sym now)))

  pub never : i < length tracks → due ≡ is_mixed_here (track_at tracks i) → ((others : List ℕ) → tracks_from takes next ≡ with_due due i others → ⊥)
      → IsTrue false ↔ (map (λ (t : TakeSeen). t.track) (map take_seen takes) ≡ mixed_here tracks)
  never lt is other = ((λ f. absurd (true≢false (sym f))), (λ e. absurd (other (due_from tracks (i + 1)) (left.0 (sym (all_tracks takes) ∙ e) ∙ now_due lt is))))

  pub at_end : length tracks ≤ i → next ≤ length takes → IsTrue (next == length takes) ↔ (map (λ (t : TakeSeen). t.track) (map take_seen takes) ≡ mixed_here tracks)
  at_end le there =
      let none = none_left takes next there in
      ((λ x. all_tracks takes ∙ left.1 (none.1 x ∙ sym (none_due tracks i le))), (λ e. none.0 (left.0 (sym (all_tracks takes) ∙ e) ∙ none_due tracks i le)))
