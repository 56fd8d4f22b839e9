-- The sums of one more take, in the lanes of a vector.
use Rattle.std.proofs.Common.{◌≡◌, ℕ, ◌+◌, ◌≤◌, ◌<◌, ℤ, Bool, List, [], ◌∷◌, ◌++◌, length, map, w32, of_z, to_z, ap, sym, subst, ◌∙◌, arith, below_more}
use Rattle.af_gain.proofs.Common.{Frame, Take, frame_at, gains_used, length-append, mixed_frame}
use borrow.Author.Count.{below_none}
use Rattle.af_gain.specs.declared.sums.Sum.{Sum}
use Rattle.af_gain.specs.Sums.{IsWithin, IsHeard, added, sum_of}
use Rattle.af_gain.specs.Narrow.{AreLanesOf, IsHeardAs, lanes_of}
use Rattle.af_gain.proofs.Lanes.{passed}
use Rattle.af_gain.proofs.Products.{added_bound}
use Rattle.af_gain.proofs.Takes.{sum_of-push}

pub less : (takes most : ℕ) (sum : Sum) → takes ≤ most → IsWithin takes sum → IsWithin most sum
less takes most sum few within = record { left = omega (arith, within.left); right = omega (arith, within.right) }

-- a sum with the frame that one more take gives
pub sum_more : (takes : List Take) (t : Take) (at : ℕ) (mono : Bool) (gains : ℕ × ℕ) (frame : Frame) → mono ≡ t.mono → gains ≡ gains_used t.gains t.scale → frame ≡ frame_at t.frames at → added mono gains frame (sum_of takes at) ≡ sum_of (takes ++ t ∷ []) at
sum_more takes t at mono gains frame same used is =
    ap (λ (m : Bool). added m gains frame (sum_of takes at)) same
    ∙ ap (λ (g : ℕ × ℕ). added t.mono g frame (sum_of takes at)) used
    ∙ ap (λ (f : Frame). added t.mono (gains_used t.gains t.scale) f (sum_of takes at)) is
    ∙ sym (sum_of-push takes t at)

pub bound_more : (takes : List Take) (t : Take) (at : ℕ) (mono : Bool) (gains : ℕ × ℕ) (frame : Frame) → gains.0 ≤ 4096 → gains.1 ≤ 4096 → IsHeard mono frame → added mono gains frame (sum_of takes at) ≡ sum_of (takes ++ t ∷ []) at → IsWithin (length takes) (sum_of takes at) → IsWithin (length (takes ++ t ∷ [])) (sum_of (takes ++ t ∷ []) at)
bound_more takes t at mono gains frame l r heard is within =
    let more : length takes + 1 ≡ length (takes ++ t ∷ []) = sym (length-append takes (t ∷ [])) in
    subst (λ (n : ℕ). IsWithin n (sum_of (takes ++ t ∷ []) at)) more
    (subst (λ (sum : Sum). IsWithin (length takes + 1) sum) is (added_bound mono gains frame (sum_of takes at) (length takes) l r heard within))

-- two positions of eight
pub lanes_more : (takes : List Take) (t : Take) (place here k next : ℕ) (eight : List Frame) (mono : Bool) (gains : ℕ × ℕ) (old new : List ℤ) → length takes < 15 → here ≡ place + k → next ≡ k + 1 → next < 8 → gains.0 ≤ 4096 → gains.1 ≤ 4096 → IsHeardAs t place eight mono gains → IsHeard mono (frame_at eight k) → IsHeard mono (frame_at eight next) → ((first second : Sum) → IsWithin 14 first → IsWithin 14 second → map (to_z w32) (map (of_z w32) old) ≡ lanes_of first second → new ≡ lanes_of (added mono gains (frame_at eight k) first) (added mono gains (frame_at eight next) second)) → AreLanesOf takes here old → AreLanesOf (takes ++ t ∷ []) here (map (to_z w32) (map (of_z w32) new))
lanes_more takes t place here k next eight mono gains old new few there after inside l r heard one two grown lanes =
    let first : frame_at eight k ≡ frame_at t.frames here = heard.frames k (omega arith) ∙ ap (frame_at t.frames) (sym there) in
    let second : frame_at eight next ≡ frame_at t.frames (here + 1) = heard.frames next inside ∙ ap (frame_at t.frames) (omega arith) in
    let sum_first = sum_more takes t here mono gains (frame_at eight k) heard.same heard.used first in
    let sum_second = sum_more takes t (here + 1) mono gains (frame_at eight next) heard.same heard.used second in
    let bound_first = bound_more takes t here mono gains (frame_at eight k) l r one sum_first lanes.first in
    let bound_second = bound_more takes t (here + 1) mono gains (frame_at eight next) l r two sum_second lanes.second in
    let narrow : (most at : ℕ) → length takes ≤ most → IsWithin (length takes) (sum_of takes at) → IsWithin most (sum_of takes at) = λ most at small within. less (length takes) most (sum_of takes at) small within in
    let were = passed (sum_of takes here) (sum_of takes (here + 1)) old (narrow 15 here (omega arith) lanes.first) (narrow 15 (here + 1) (omega arith) lanes.second) lanes.are in
    let are : new ≡ lanes_of (sum_of (takes ++ t ∷ []) here) (sum_of (takes ++ t ∷ []) (here + 1)) =
    grown (sum_of takes here) (sum_of takes (here + 1)) (narrow 14 here (omega arith) lanes.first) (narrow 14 (here + 1) (omega arith) lanes.second) were
    ∙ ap (λ (s : Sum). lanes_of s (added mono gains (frame_at eight next) (sum_of takes (here + 1)))) sum_first
    ∙ ap (lanes_of (sum_of (takes ++ t ∷ []) here)) sum_second in
    let more : length (takes ++ t ∷ []) ≤ 15 = omega (arith, length-append takes (t ∷ [])) in
    record {
      are = passed (sum_of (takes ++ t ∷ []) here) (sum_of (takes ++ t ∷ []) (here + 1)) new
          (less (length (takes ++ t ∷ [])) 15 (sum_of (takes ++ t ∷ []) here) more bound_first)
          (less (length (takes ++ t ∷ [])) 15 (sum_of (takes ++ t ∷ []) (here + 1)) more bound_second) are;
      first = bound_first;
      second = bound_second;
    }

-- the frames of four vectors
pub eight_are : (takes : List Take) (at : ℕ) (eight : List Frame) → frame_at eight 0 ≡ mixed_frame takes at → frame_at eight 1 ≡ mixed_frame takes (at + 1) → frame_at eight 2 ≡ mixed_frame takes (at + 2) → frame_at eight 3 ≡ mixed_frame takes (at + 2 + 1) → frame_at eight 4 ≡ mixed_frame takes (at + 4) → frame_at eight 5 ≡ mixed_frame takes (at + 4 + 1) → frame_at eight 6 ≡ mixed_frame takes (at + 6) → frame_at eight 7 ≡ mixed_frame takes (at + 6 + 1) → (k : ℕ) → k < 8 → frame_at eight k ≡ mixed_frame takes (at + k)
eight_are takes at eight a b d e f g h i =
    let P : ℕ → Type 0 = λ k. frame_at eight k ≡ mixed_frame takes (at + k) in
    let zeroth : at ≡ at + 0 = omega arith in
    let third : at + 2 + 1 ≡ at + 3 = omega arith in
    let fifth : at + 4 + 1 ≡ at + 5 = omega arith in
    let seventh : at + 6 + 1 ≡ at + 7 = omega arith in
    below_more P 7 (below_more P 6 (below_more P 5 (below_more P 4 (below_more P 3 (below_more P 2 (below_more P 1 (below_more P 0 (below_none P)
    (a ∙ ap (mixed_frame takes) zeroth)) b) d) (e ∙ ap (mixed_frame takes) third)) f) (g ∙ ap (mixed_frame takes) fifth)) h) (i ∙ ap (mixed_frame takes) seventh)
