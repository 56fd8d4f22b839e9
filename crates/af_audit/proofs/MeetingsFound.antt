-- The meetings of a round are judged one track after the other.
use Rattle.std.proofs.Common.{◌≡◌, ◌↔◌, inl, inr, ℕ, ◌+◌, ◌<◌, ◌≤◌, Bool, true, false, true≢false, IsTrue, if◌then◌else◌, MatchBool, List, length, set, Option, None, arith, refl, sym, subst, ◌∙◌}
use Rattle.af_audit.proofs.Common.{AreShort, BothKeep, IsTrackAt, TrackJudge, below_or_at, blocks_met, get_or-set_other, get_or-set_same, length-set, same_track}
use Rattle.af_audit.specs.declared.run_judge.RunJudge.{RunJudge}
use Rattle.af_audit.specs.MeetingsJudged.{Keeps, TracksMet, is_there}
use Rattle.af_audit.specs.RunKept.{LeastBelow, found_after}
use Rattle.af_audit.proofs.CallsJudged.{least_after, other-track, put-track}
use Rattle.af_audit.proofs.LeastOnes.{least_same}

-- no track has met
pub none_met : (j : RunJudge) (tracks : List TrackJudge) → TracksMet j 0 tracks tracks None
none_met j tracks = record {
  met = λ i t k lt. absurd (omega (arith, lt));
  short = λ i k lt. absurd (omega (arith, lt));
  others = λ i t low at. at;
  least = λ i lt. absurd (omega (arith, lt));
}

module _ (j : RunJudge) (before now : List TrackJudge) (at : ℕ) (t k : TrackJudge) (here : IsTrackAt now at t) (long : length now ≡ length before) where
  -- a track before this one stays
  stays : (i : ℕ) (u : TrackJudge) → i < at → IsTrackAt now i u → IsTrackAt (set now at k) i u
  stays i u lt a = ((let x = a.0 in let l = length-set now at k in omega (arith, x, l)), a.1 ∙ sym (get_or-set_other now at i k u (λ e. omega (arith, lt, e))))

  put_here : IsTrackAt (set now at k) at k
  put_here = ((let x = here.0 in let l = length-set now at k in omega (arith, x, l)), sym (get_or-set_same now at k k here.0))

  -- the meetings of one track more are judged, after those of the tracks before it
  pub one_met : (found next : Option ℕ) (right : Bool) → TracksMet j at before now found → k ≡ blocks_met (is_there j at) j.normal.handed t → AreShort (is_there j at) k → IsTrue right ↔ BothKeep (is_there j at) k → next ≡ found_after found right at
      → TracksMet j (at + 1) before (set now at k) next
  one_met found next right h met short answer is = record {
    met = λ i u v lt a b. elim (below_or_at i at lt) [
      | inl less ↦ h.met i u v less a (other-track now at i k v (λ e. omega (arith, less, e)) b)
      | inr same ↦ met_here u v i same a b
    ];
    short = λ i v lt b. elim (below_or_at i at lt) [
      | inl less ↦ h.short i v less (other-track now at i k v (λ e. omega (arith, less, e)) b)
      | inr same ↦ subst (λ n. AreShort (is_there j n) v) (sym same) (subst (AreShort (is_there j at)) (sym (put-track now at k v (subst (λ n. IsTrackAt (set now at k) n v) same b))) short)
    ];
    others = λ i u low a. h.others i u (omega (arith, low)) (other-track now at i k u (λ e. omega (arith, low, e)) a);
    least = subst (LeastBelow (Keeps j (set now at k)) (at + 1)) (sym is) (least_after (Keeps j (set now at k)) at found right
        (least_same (Keeps j now) (Keeps j (set now at k)) at found
        (λ i lt keeps u b. keeps u (other-track now at i k u (λ e. omega (arith, lt, e)) b))
        (λ i lt keeps u b. keeps u (stays i u lt b)) h.least)
        (keeps_here right answer));
  }
    where
      met_here : (u v : TrackJudge) (i : ℕ) → i ≡ at → IsTrackAt before i u → IsTrackAt (set now at k) i v → v ≡ blocks_met (is_there j i) j.normal.handed u
      met_here u v i same a b =
          let first : t ≡ u = same_track before at t u (h.others at t (let x : at ≤ at = omega arith in x) here) (subst (λ n. IsTrackAt before n u) same a) in
          put-track now at k v (subst (λ n. IsTrackAt (set now at k) n v) same b) ∙ (met ∙ (λ z. blocks_met (is_there j (sym same z)) j.normal.handed (first z)))

      keeps_here : (b : Bool) → IsTrue b ↔ BothKeep (is_there j at) k → MatchBool b (Keeps j (set now at k) at) (Keeps j (set now at k) at → ⊥)
      keeps_here true a = λ u x. subst (BothKeep (is_there j at)) (sym (put-track now at k u x)) (a.0 refl)
      keeps_here false a = λ keeps. true≢false (sym (a.1 (keeps k put_here)))
