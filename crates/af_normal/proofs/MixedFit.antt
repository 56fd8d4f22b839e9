-- What was taken fits into a buffer, and is of the tracks.
use Rattle.std.proofs.Common.{◌≡◌, ℕ, zero, suc, ◌<◌, ◌≤◌, List, [], ◌∷◌, length, map, All, slice_index_or, sym, ap, subst, ◌∙◌, length-append, arith}
use Rattle.af_normal.proofs.Common.{All-from_get_or, All-get_or, All-nil, All-push, All-weaker, NormalTake, TakeSeen, by_bool, get_or-map, is_mixed_here, length-map, take_seen, track_at}
use Rattle.af_normal.specs.Mixing.{Mixing, MixesTo, TakesOf}
use Rattle.af_normal.specs.Sums.{Fits}
use Rattle.af_normal.proofs.Given.{no_take}

-- a take of one of so many tracks, no longer than the buffer
pub record FitsSeen (asked tracks : ℕ) (t : TakeSeen) : Type 0 where
  pub track : t.track < tracks
  pub short : length t.frames ≤ asked

-- so many tracks gave so many takes at most, each of which fits
pub record AreTaken (asked n : ℕ) (takes : List TakeSeen) : Type 0 where
  pub few : length takes ≤ n
  pub fit : All (FitsSeen asked n) takes

more : (asked n : ℕ) (takes : List TakeSeen) → AreTaken asked n takes → AreTaken asked (suc n) takes
more asked n takes h = record {
  few = (let f = h.few in omega arith);
  fit = All-weaker (FitsSeen asked n) (FitsSeen asked (suc n)) (λ t f. record { track = (let l = f.track in omega arith); short = f.short }) takes h.fit;
}

one_more : (asked n : ℕ) (x y : Mixing) → AreTaken asked n x.takes → TakesOf asked n x y → AreTaken asked (suc n) y.takes
one_more asked n x y h t = subst (AreTaken asked (suc n)) (sym (ap (λ (z : Mixing). z.takes) t.then)) (record {
  few = (let f = h.few in let l = length-append x.takes (t.take ∷ []) in omega arith);
  fit = All-push (FitsSeen asked (suc n)) x.takes t.take (more asked n x.takes h).fit (record { track = (let e = t.takes.track in omega arith); short = t.takes.within });
})

pub mixed_fit : (asked n : ℕ) (x y : Mixing) → x.takes ≡ [] → MixesTo asked n x y → AreTaken asked n y.takes
mixed_fit asked zero x y none m = subst (AreTaken asked 0) (sym (ap (λ (z : Mixing). z.takes) m ∙ none)) (record { few = omega arith; fit = All-nil (FitsSeen asked 0) })
mixed_fit asked (suc n) x y none m = by_bool (is_mixed_here (track_at m.0.tracks n)) (TakesOf asked n m.0 y) (y ≡ m.0) (AreTaken asked (suc n) y.takes)
    (λ t. one_more asked n m.0 y (mixed_fit asked n x m.0 none m.1) t)
    (λ e. subst (AreTaken asked (suc n)) (sym (ap (λ (z : Mixing). z.takes) e)) (more asked n m.0.takes (mixed_fit asked n x m.0 none m.1)))
    m.2

-- so many tracks gave so many takes of the program at most, each of which fits
pub takes_fit : (asked n : ℕ) (takes : List NormalTake) → AreTaken asked n (map take_seen takes) → (length takes ≤ n) × All (Fits asked n) takes
takes_fit asked n takes h = (
  (let f = h.few in let l = length-map takes take_seen in omega arith),
  All-from_get_or (Fits asked n) takes no_take
      (λ i lt. let f : FitsSeen asked n (slice_index_or (map take_seen takes) i (take_seen no_take)) = All-get_or (FitsSeen asked n) (map take_seen takes) i (take_seen no_take) (let l = length-map takes take_seen in omega arith) h.fit in
      let e : slice_index_or (map take_seen takes) i (take_seen no_take) ≡ take_seen (slice_index_or takes i no_take) = get_or-map take_seen takes i no_take (take_seen no_take) lt in
      record { track = subst (λ (t : TakeSeen). t.track < n) e f.track; short = subst (λ (t : TakeSeen). length t.frames ≤ asked) e f.short }),
)
