-- One take more for the buffer, as a judge notes it.
use Rattle.std.proofs.Common.{◌≡◌, ◌↔◌, ℕ, zero, suc, ◌+◌, ◌<◌, ◌≤◌, ◌==◌, ◌&&◌, Bool, true, false, IsTrue, cond, fold, refl, sym, ap, ◌∙◌, subst, List, [], ◌∷◌, ◌++◌, append-nil, length, map, take, get_or, eqb-true, true≢false, arith}
use Rattle.af_judge.proofs.Common.{AllByRecursion, NormalTake, TakeSeen, TracksRise, filter-append, map_last, nat_tests, slice_index_or, take_more, take_seen, takes_from}
use Rattle.std.proofs.lemmas.List.Sums.{fold-append}
use Rattle.af_judge.proofs.Basics.{same_track, there_is}
use Rattle.af_judge.specs.declared.track_judge.TrackJudge.{TrackJudge}
use Rattle.af_judge.specs.NormalTold.{IsTrackAt, IsTaken, AreTaken, IsRightTake, take_told}
use Rattle.af_judge.proofs.NormalKept.{both_so}
use Rattle.af_judge.proofs.TurnExactly.{others_of}

-- ## Lists

all_last : {A : Type 0} (P : A → Type 0) (xs : List A) (x : A) → AllByRecursion P (xs ++ x ∷ []) ↔ (AllByRecursion P xs × P x)
all_last P [] x = ((λ h. (tt, h.0)), (λ h. (h.1, tt)))
all_last P (y ∷ xs) x = let rest = all_last P xs x in ((λ h. let r = rest.0 h.1 in ((h.0, r.0), r.1)), (λ h. (h.0.0, rest.1 (h.0.1, h.1))))

-- what is seen of the takes up to the next one
pub one_seen : (takes : List NormalTake) (i : ℕ) (item : NormalTake) → i < length takes → item ≡ slice_index_or takes i item → map take_seen (take (i + 1) takes) ≡ map take_seen (take i takes) ++ take_seen item ∷ []
one_seen takes i item there is = ap (map take_seen) (take_more takes i item there) ∙ map_last take_seen (take i takes) (get_or takes i item) ∙ ap (λ (t : NormalTake). map take_seen (take i takes) ++ take_seen t ∷ []) (sym is)

-- ## Rising tracks

rise_at : (low : ℕ) (takes : List NormalTake) (i : ℕ) (d : NormalTake) → TracksRise low (map take_seen takes) → i < length takes → low ≤ (get_or takes i d).track
rise_at low [] i d rise there = absurd (omega (arith, there))
rise_at low (t ∷ takes) zero d rise there = rise.0
rise_at low (t ∷ takes) (suc i) d rise there = let a = rise_at (t.track + 1) takes i d rise.1 (omega (arith, there)) in let b = rise.0 in omega (arith, a, b)

-- no take before one is of its track
none_before : (low : ℕ) (takes : List NormalTake) (i : ℕ) (d : NormalTake) → TracksRise low (map take_seen takes) → i < length takes → takes_from (map take_seen (take i takes)) (get_or takes i d).track ≡ []
none_before low [] i d rise there = absurd (omega (arith, there))
none_before low (t ∷ takes) zero d rise there = refl
none_before low (t ∷ takes) (suc i) d rise there =
    let a = rise_at (t.track + 1) takes i d rise.1 (omega (arith, there)) in
    others_of (take_seen t) (map take_seen (take i takes)) (get_or takes i d).track (omega (arith, a)) ∙ none_before (t.track + 1) takes i d rise.1 (omega (arith, there))

pub none_yet : (takes : List NormalTake) (i : ℕ) (item : NormalTake) → TracksRise 0 (map take_seen takes) → i < length takes → item ≡ slice_index_or takes i item → takes_from (map take_seen (take i takes)) (take_seen item).track ≡ []
none_yet takes i item rise there is = ap (λ (t : NormalTake). takes_from (map take_seen (take i takes)) t.track) is ∙ none_before 0 takes i item rise there

-- ## One take more

module _ (asked : ℕ) (takes : List TakeSeen) (x : TakeSeen) (before now : List TrackJudge) (taken : AreTaken asked takes before now) where
  only : (i : ℕ) (b : Bool) → (x.track == i) ≡ b → takes_from (takes ++ x ∷ []) i ≡ takes_from takes i ++ cond b (x ∷ []) []
  only i b e = filter-append (λ (take : TakeSeen). take.track == i) takes (x ∷ []) ∙ ap (λ (c : Bool). takes_from takes i ++ cond c (x ∷ []) []) e

  pub one_taken : (next : List TrackJudge) → IsTaken asked x now next → AreTaken asked (takes ++ x ∷ []) before next
  one_taken next one i t at = by_case (x.track == i) refl
    where
      F : List TakeSeen → TrackJudge
      F ts = fold (λ (t : TrackJudge) (take : TakeSeen). take_told asked take t) t ts

      by_case : (b : Bool) → (x.track == i) ≡ b → IsTrackAt next i (fold (λ (t : TrackJudge) (take : TakeSeen). take_told asked take t) t (takes_from (takes ++ x ∷ []) i))
      by_case true e =
          let same : x.track ≡ i = eqb-true x.track i e in
          let told : IsTrackAt next i (take_told asked x (F (takes_from takes i))) = subst (λ (n : ℕ). IsTrackAt now n (F (takes_from takes i)) → IsTrackAt next n (take_told asked x (F (takes_from takes i)))) same (one.told (F (takes_from takes i))) (taken i t at) in
          subst (IsTrackAt next i) (sym (ap F (only i true e) ∙ fold-append (λ (t : TrackJudge) (take : TakeSeen). take_told asked take t) t (takes_from takes i) (x ∷ []))) told
      by_case false e =
          let other : i ≡ x.track → ⊥ = λ same. let h : (x.track == i) ≡ true = grind (arith, nat_tests, same) in absurd (true≢false (sym h ∙ e)) in
          subst (IsTrackAt next i) (sym (ap F (only i false e) ∙ ap F (append-nil (takes_from takes i)))) (one.others i (F (takes_from takes i)) other (taken i t at))

  module _ (none : takes_from takes x.track ≡ []) (many : length now ≡ length before) where
    -- the track of the next take is as it was before all takes
    still : (t : TrackJudge) → IsTrackAt before x.track t → IsTrackAt now x.track t
    still t at = subst (λ (ts : List TakeSeen). IsTrackAt now x.track (fold (λ (t : TrackJudge) (take : TakeSeen). take_told asked take t) t ts)) none (taken x.track t at)

    as_before : (u : TrackJudge) → IsTrackAt now x.track u → IsTrackAt before x.track u
    as_before u at =
        let t : TrackJudge = slice_index_or before x.track u in
        let here : IsTrackAt before x.track t = there_is before x.track u (let a = at.0 in omega (arith, a, many)) in
        subst (IsTrackAt before x.track) (same_track now x.track t u (still t here) at) here

    pub one_right : (r y : Bool) → (IsTrue r ↔ AllByRecursion (IsRightTake asked before) takes) → (IsTrue y ↔ IsRightTake asked now x) → IsTrue (r && y) ↔ AllByRecursion (IsRightTake asked before) (takes ++ x ∷ [])
    one_right r y all here =
        let both = both_so r y all here in
        let last = all_last (IsRightTake asked before) takes x in (
          (λ h. let parts = both.0 h in last.1 (parts.0, record { track = parts.1.track; is = as_before parts.1.track parts.1.is; right = parts.1.right })),
          (λ h. let parts = last.0 h in both.1 (parts.0, record { track = parts.1.track; is = still parts.1.track parts.1.is; right = parts.1.right })),
        )
