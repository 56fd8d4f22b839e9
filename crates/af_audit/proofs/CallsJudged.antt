-- The calls of a round are judged one client after the other.
use Rattle.std.proofs.Common.{◌≡◌, inl, inr, ℕ, ◌+◌, ◌<◌, ◌≤◌, Bool, true, false, MatchBool, List, [], length, map, set, Option, Some, None, IfSome, arith, sym, subst, ◌∙◌}
use Rattle.af_audit.proofs.Common.{ClientCall, Frame, IsTrackAt, KeepsTrack, LegalClientTurn, Op, SameServers, Track, TrackJudge, TrackSpec, after_calls, all_more, below_or_at, get_or-set_other, get_or-set_same, length-set, no_spec, packed_word, same_track, slice_index_or}
use Rattle.af_audit.specs.RunKept.{AreSides, CallsJudged, LeastBelow, found_after}

-- the track at a place is the one that was put there
pub put-track : (tracks : List TrackJudge) (i : ℕ) (k u : TrackJudge) → IsTrackAt (set tracks i k) i u → u ≡ k
put-track tracks i k u a = a.1 ∙ get_or-set_same tracks i k u (let x = a.0 in let l = length-set tracks i k in omega (arith, x, l))

-- the tracks at other places are as before one was put
pub other-track : (tracks : List TrackJudge) (i j : ℕ) (k u : TrackJudge) → (j ≡ i → ⊥) → IsTrackAt (set tracks i k) j u → IsTrackAt tracks j u
other-track tracks i j k u ne a = ((let x = a.0 in let l = length-set tracks i k in omega (arith, x, l)), a.1 ∙ get_or-set_other tracks i j k u ne)

-- the least number found stays the least after one more number
pub least_found_more : (P : ℕ → Type 0) (at x : ℕ) → LeastBelow P at (Some x) → LeastBelow P (at + 1) (Some x)
least_found_more P at x h = ((let a = h.0 in omega (arith, a)), h.1, h.2)

pub least_right_more : (P : ℕ → Type 0) (at : ℕ) → LeastBelow P at None → P at → LeastBelow P (at + 1) None
least_right_more P at h p = all_more P at h p

pub least_wrong_more : (P : ℕ → Type 0) (at : ℕ) → LeastBelow P at None → (P at → ⊥) → LeastBelow P (at + 1) (Some at)
least_wrong_more P at h p = ((let x : at < at + 1 = omega arith in x), p, h)

pub least_after : (P : ℕ → Type 0) (at : ℕ) (found : Option ℕ) (right : Bool) → LeastBelow P at found → MatchBool right (P at) (P at → ⊥) → LeastBelow P (at + 1) (found_after found right at)
least_after P at (Some x) right h p = least_found_more P at x h
least_after P at None true h p = least_right_more P at h p
least_after P at None false h p = least_wrong_more P at h p

pub few_after : (at n : ℕ) (found : Option ℕ) (right : Bool) → IfSome found (λ i. i < n) → at < n → IfSome (found_after found right at) (λ i. i < n)
few_after at n (Some x) right h lt = h
few_after at n None true h lt = tt
few_after at n None false h lt = lt

-- what a client's turn answers, by its ops, its file and its calls
abbrev pub TurnAnswer : TrackJudge → TrackJudge → Bool → List Op → List ℕ → List ClientCall → Type 0
TurnAnswer t k legal ops file calls = (u : Track) → u.file ≡ file → KeepsTrack ops t u → MatchBool legal (LegalClientTurn u calls × KeepsTrack ops k (after_calls u calls)) (LegalClientTurn u calls → ⊥)

pub moved_answer : (t k : TrackJudge) (legal : Bool) (o p : List Op) (f g : List ℕ) (x y : List ClientCall) → o ≡ p → f ≡ g → x ≡ y → TurnAnswer t k legal o f x → TurnAnswer t k legal p g y
moved_answer t k legal o p f g x y a b d h = subst (λ (n : List Op). TurnAnswer t k legal n g y) a (subst (λ (n : List ℕ). TurnAnswer t k legal o n y) b (subst (λ (n : List ClientCall). TurnAnswer t k legal o f n) d h))

module _ (specs : List TrackSpec) (files : List (List Frame)) (calls : ℕ → List ClientCall) (before now : List TrackJudge) (at : ℕ) (t k : TrackJudge) (here : IsTrackAt now at t) where
  -- what is kept of the tracks, whatever is found
  pub more : (legal : Bool) (found next : Option ℕ) → length now ≡ length before → CallsJudged at specs files calls before now found → SameServers t k
      → ((u : Track) → u.file ≡ map packed_word (slice_index_or files at []) → KeepsTrack (slice_index_or specs at no_spec).ops t u → MatchBool legal (LegalClientTurn u (calls at) × KeepsTrack (slice_index_or specs at no_spec).ops k (after_calls u (calls at))) (LegalClientTurn u (calls at) → ⊥))
      → next ≡ found_after found legal at → CallsJudged (at + 1) specs files calls before (set now at k) next
  more legal found next many h same answers least = record {
    servers = λ i u v lt a b. elim (below_or_at i at lt) [
      | inl less ↦ h.servers i u v less a (other-track now at i k v (λ e. omega (arith, less, e)) b)
      | inr is ↦ servers_here u v (subst (λ n. IsTrackAt before n u) is a) (subst (λ n. IsTrackAt (set now at k) n v) is b)
    ];
    others = λ i u low a. h.others i u (omega (arith, low)) (other-track now at i k u (λ e. omega (arith, low, e)) a);
    turns = λ run sides. subst (LeastBelow (λ i. LegalClientTurn (run i) (calls i)) (at + 1)) (sym least) (least_after (λ i. LegalClientTurn (run i) (calls i)) at found legal (h.turns run sides) (legal_here run sides legal (answers (run at) (sides.file at inside) (sides.kept at t before_here))));
    kept = λ run sides i v lt a legal_turn. elim (below_or_at i at lt) [
      | inl less ↦ h.kept run sides i v less (other-track now at i k v (λ e. omega (arith, less, e)) a) legal_turn
      | inr is ↦ subst (λ n. KeepsTrack (slice_index_or specs n no_spec).ops v (after_calls (run n) (calls n))) (sym is)
          (subst (λ x. KeepsTrack (slice_index_or specs at no_spec).ops x (after_calls (run at) (calls at))) (sym (put-track now at k v (subst (λ n. IsTrackAt (set now at k) n v) is a)))
          (kept_here run legal (answers (run at) (sides.file at inside) (sides.kept at t before_here)) (subst (λ n. LegalClientTurn (run n) (calls n)) is legal_turn)))
    ];
  }
    where
      inside : at < length before
      inside = (let x = here.0 in omega (arith, x, many))

      before_here : IsTrackAt before at t
      before_here = h.others at t (let x : at ≤ at = omega arith in x) here

      servers_here : (u v : TrackJudge) → IsTrackAt before at u → IsTrackAt (set now at k) at v → SameServers u v
      servers_here u v a b = subst (λ x. SameServers x v) (same_track before at t u before_here a) (subst (λ x. SameServers t x) (sym (put-track now at k v b)) same)

      legal_here : (run : ℕ → Track) → AreSides specs files before run → (b : Bool) → MatchBool b (LegalClientTurn (run at) (calls at) × KeepsTrack (slice_index_or specs at no_spec).ops k (after_calls (run at) (calls at))) (LegalClientTurn (run at) (calls at) → ⊥) → MatchBool b (LegalClientTurn (run at) (calls at)) (LegalClientTurn (run at) (calls at) → ⊥)
      legal_here run sides true x = x.0
      legal_here run sides false x = x

      kept_here : (run : ℕ → Track) (b : Bool) → MatchBool b (LegalClientTurn (run at) (calls at) × KeepsTrack (slice_index_or specs at no_spec).ops k (after_calls (run at) (calls at))) (LegalClientTurn (run at) (calls at) → ⊥) → LegalClientTurn (run at) (calls at) → KeepsTrack (slice_index_or specs at no_spec).ops k (after_calls (run at) (calls at))
      kept_here run true x l = x.1
      kept_here run false x l = absurd (x l)
