-- Looks that all go on, and what follows them.
use Rattle.std.proofs.Common.{◌≡◌, ℕ, suc, ◌+◌, Bool, true, false, true≢false, if◌then◌else◌, ◌&&◌, fold, sym, refl, ap, ◌∙◌, List, [], ◌∷◌, ◌++◌, length, Option, arith}
use Rattle.af_life.proofs.Common.{CommandLook, both}
use Rattle.af_life.specs.declared.kept.TrackKept.{TrackKept}
use Rattle.af_life.specs.Obeys.{after_look, goes_on, after_looks, are_due}
use Rattle.af_life.proofs.Words.{all_go_on}

module _ (given : Option ℕ) (flush_seen : ℕ) where
  -- the track after some looks, all of which go on
  abbrev pub after_all : TrackKept → List CommandLook → TrackKept
  after_all s looks = fold (λ t look. after_look given flush_seen look t) s looks

  taken : {A : Type 0} (b : Bool) (x y : A) → b ≡ true → (if b then x else y) ≡ x
  taken true x y e = refl
  taken false x y e = absurd (true≢false (sym e))

  pub after_looks-go : (xs ys : List CommandLook) (s : TrackKept) → all_go_on given flush_seen xs s ≡ true → after_looks given flush_seen (xs ++ ys) s ≡ after_looks given flush_seen ys (after_all s xs)
  after_looks-go [] ys s h = refl
  after_looks-go (x ∷ xs) ys s h = let t : TrackKept = after_look given flush_seen x s in let parts = both (goes_on x t) (all_go_on given flush_seen xs t) h in
      taken (goes_on x t) (after_looks given flush_seen (xs ++ ys) t) t parts.0 ∙ after_looks-go xs ys t parts.1

  -- a look that goes on joins those that do
  pub still_on : (s : TrackKept) (looks : List CommandLook) (look : CommandLook) → all_go_on given flush_seen looks s ≡ true
      → goes_on look (after_look given flush_seen look (after_all s looks)) ≡ true → all_go_on given flush_seen (looks ++ look ∷ []) s ≡ true
  still_on s [] look h on = ap (λ (b : Bool). b && true) on
  still_on s (x ∷ looks) look h on = let t : TrackKept = after_look given flush_seen x s in let parts = both (goes_on x t) (all_go_on given flush_seen looks t) h in
      ap (λ (b : Bool). b && all_go_on given flush_seen (looks ++ look ∷ []) t) parts.0 ∙ still_on t looks look parts.1 on

  pub after-push : (s : TrackKept) (looks : List CommandLook) (look : CommandLook) → after_all s (looks ++ look ∷ []) ≡ after_look given flush_seen look (after_all s looks)
  after-push s [] look = refl
  after-push s (x ∷ looks) look = after-push (after_look given flush_seen x s) looks look

  pub are_due-go : (n : ℕ) (xs ys : List CommandLook) (s : TrackKept) → all_go_on given flush_seen xs s ≡ true → are_due (length xs + n) given flush_seen (xs ++ ys) s ≡ are_due n given flush_seen ys (after_all s xs)
  are_due-go n [] ys s h = let e : 0 + n ≡ n = omega arith in ap (λ (k : ℕ). are_due k given flush_seen ys s) e
  are_due-go n (x ∷ xs) ys s h = let t : TrackKept = after_look given flush_seen x s in let parts = both (goes_on x t) (all_go_on given flush_seen xs t) h in
      let e : suc (length xs) + n ≡ suc (length xs + n) = omega arith in
      ap (λ (k : ℕ). are_due k given flush_seen (x ∷ xs ++ ys) s) e
      ∙ taken (goes_on x t) (are_due (length xs + n) given flush_seen (xs ++ ys) t) _ parts.0 ∙ are_due-go n xs ys t parts.1
