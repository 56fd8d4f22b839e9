-- What a turn has before it looks at the acknowledgement: each stream proxy is where it was, and differs at most by its hand.
use Rattle.std.proofs.Common.{◌≡◌, ℕ, zero, suc, ◌≤◌, ◌==◌, ◌&&◌, Bool, true, false, MatchBool, if◌then◌else◌, refl, sym, ap, subst, ◌∙◌, List, [], ◌∷◌, length, Option, Some, arith}
use Rattle.af_told_law.proofs.Common.{Begins, BegunBy, HandsTo, HasHands, IsTied, Links, NormalKept, NormalState, ServerState, begun_by, home_stream, in_hand, is_returning, kept_of, none-some, same_Some, slice_set, slot_number, stream_at, track_at, without_hand}
use Rattle.af_normal.specs.Order.{IsInOrder}
use Rattle.af_normal.proofs.Cases.{none_of_zero, some_of_other}
use Rattle.af_normal.proofs.Servable.{handed_same, handed_tied, have_hands, whole_begun}

-- the proxy is one that has this part
abbrev pub HasPart : Option ServerState → ServerState → Type 0
HasPart o t = (r : ServerState) × (o ≡ Some r) × (t.pass.part ≡ r.pass.part)

part_set : (streams : List (Option ServerState)) (n : ℕ) (s : ServerState) → stream_at streams n ≡ Some s → (i : ℕ) (t : ServerState) → stream_at (slice_set streams n (Some (without_hand s))) i ≡ Some t → HasPart (stream_at streams i) t
part_set [] n s is i t e = absurd (none-some _ is)
part_set (o ∷ streams) zero s is zero t e = (s, is, ap (λ (r : ServerState). r.pass.part) (same_Some _ _ (sym e)))
part_set (o ∷ streams) zero s is (suc i) t e = (t, e, refl)
part_set (o ∷ streams) (suc n) s is zero t e = (t, e, refl)
part_set (o ∷ streams) (suc n) s is (suc i) t e = part_set streams n s is i t e

parts_to : (n : ℕ) (x y : NormalState) → HandsTo n x y → (i : ℕ) (t : ServerState) → stream_at y.streams i ≡ Some t → HasPart (stream_at x.streams i) t
parts_to zero x y h i t e = (t, ap (λ (w : NormalState). stream_at w.streams i) (sym h) ∙ e, refl)
parts_to (suc n) x y (z, before, h) i t e =
    let one = part_set z.streams n h.stream h.is_home i t (ap (λ (w : NormalState). stream_at w.streams i) (sym h.leaves) ∙ e) in
    let all = parts_to n x z before i one.0 one.1 in
    (all.0, all.1, one.2 ∙ all.2)

module _ (links : Links) (x b h : NormalState) (order : IsInOrder links x) (begins : Begins x b) (hands : HasHands b h) where
  begun_tied : IsTied links b
  begun_tied = subst (IsTied links) (sym begins.same) (record { sound = order.tied.sound; sizes = order.tied.sizes; proxies = order.tied.proxies; out = order.tied.out; linked = order.tied.linked })

  pub handed : BegunBy x h
  handed = begun_by x b h begins hands

  by_turns : (n : ℕ) → x.turns ≡ n → 1 ≤ length b.hands → length b.hands ≡ length b.tracks
  by_turns zero t some = let none = ap length (order.none_yet t).none in let same = ap (λ (z : NormalState). length z.hands) begins.same in absurd (omega arith)
  by_turns (suc n) t some = subst (λ (z : NormalState). length z.hands ≡ length z.tracks) (sym begins.same) (order.hands (omega arith)).whole

  -- the mixer is tied, and has a hand for each track
  pub tied : IsTied links h × (length h.hands ≡ length h.tracks)
  tied = by_hands (length b.hands == 0) refl hands
    where
      by_hands : (t : Bool) → (length b.hands == 0) ≡ t → MatchBool t (HandsTo (length b.tracks) b h) (h ≡ b) → IsTied links h × (length h.hands ≡ length h.tracks)
      by_hands true is m = let none = none_of_zero b.hands is in
          (handed_tied links b begun_tied none (whole_begun links x b order begins none) h m, (have_hands links b begun_tied none (whole_begun links x b order begins none) h m).whole)
      by_hands false is m = subst (λ (z : NormalState). IsTied links z × (length z.hands ≡ length z.tracks)) (sym m) (begun_tied, by_turns x.turns refl (some_of_other b.hands is))

  -- the entry of the turn is empty before it looks
  pub empty : (h.entry.tracks.items ≡ []) × (h.entry.mixes.items ≡ [])
  empty = by_hands (length b.hands == 0) refl hands
    where
      by_hands : (t : Bool) → (length b.hands == 0) ≡ t → MatchBool t (HandsTo (length b.tracks) b h) (h ≡ b) → (h.entry.tracks.items ≡ []) × (h.entry.mixes.items ≡ [])
      by_hands true is m = let none = none_of_zero b.hands is in let same = handed_same links b begun_tied none (whole_begun links x b order begins none) h m in
          (ap (λ (z : NormalState). z.entry.tracks.items) same ∙ begins.tracks, ap (λ (z : NormalState). z.entry.mixes.items) same ∙ begins.mixes)
      by_hands false is m = (ap (λ (z : NormalState). z.entry.tracks.items) m ∙ begins.tracks, ap (λ (z : NormalState). z.entry.mixes.items) m ∙ begins.mixes)

  -- a stream proxy that is home was home, with its list and its frames
  pub parts : (i : ℕ) (t : ServerState) → stream_at h.streams i ≡ Some t → HasPart (stream_at x.streams i) t
  parts i t e = by_hands (length b.hands == 0) hands
    where
      by_begun : (s : ServerState) → stream_at b.streams i ≡ Some s → HasPart (stream_at x.streams i) s
      by_begun s is = (s, ap (λ (w : NormalState). stream_at w.streams i) (sym begins.same) ∙ is, refl)

      by_hands : (d : Bool) → MatchBool d (HandsTo (length b.tracks) b h) (h ≡ b) → HasPart (stream_at x.streams i) t
      by_hands true m = let one = parts_to (length b.tracks) b h m i t e in let all = by_begun one.0 one.1 in (all.0, all.1, one.2 ∙ all.2)
      by_hands false m = by_begun t (ap (λ (w : NormalState). stream_at w.streams i) (sym m) ∙ e)

  -- a proxy that comes home by the acknowledgement was there with its list and its frames
  pub home_parts : (ack : Bool) (back : List (Option ServerState)) (i : ℕ) (t : ServerState) → home_stream ack (kept_of h) back h i ≡ Some t → HasPart (home_stream ack (kept_of x) back x i) t
  home_parts ack back i t e =
      let kept : kept_of h ≡ kept_of x = ap kept_of handed.same in
      by_case (ack && is_returning (track_at x.tracks i).holder) (ap (λ (m : NormalKept). home_stream ack m back h i) (sym kept) ∙ e)
    where
      by_case : (d : Bool) → (if d then in_hand back h.mutator.returned (slot_number (track_at x.tracks i)) else stream_at h.streams i) ≡ Some t
          → HasPart (if d then in_hand back x.mutator.returned (slot_number (track_at x.tracks i)) else stream_at x.streams i) t
      by_case true is = (t, ap (λ (w : NormalState). in_hand back w.mutator.returned (slot_number (track_at x.tracks i))) (sym handed.same) ∙ is, refl)
      by_case false is = parts i t is
