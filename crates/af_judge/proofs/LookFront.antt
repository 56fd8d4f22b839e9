-- If a look answers by some front, it answers by the one that its answer gives.
use Rattle.std.proofs.Common.{◌≡◌, ℕ, ◌+◌, ◌-◌, ◌%◌, ◌^◌, ◌<◌, ◌≤◌, ◌==◌, ◌&&◌, ◌||◌, not, min, nat_lt, Bool, true, false, true≢false, if◌then◌else◌, refl, sym, ap, ◌∙◌, subst, eqb-true, mod-lt, arith}
use Rattle.af_judge.proofs.Common.{IsSeen, Seen, Shape, SlotEntry, ahead, behind, below_is, both, dropped_by, flush_position, flushed_front, front_by_answer, is_not_below, is_noticed, look_at, nat_tests, not_below_is, past_front, wrapped}
use Rattle.af_base.specs.declared.seen.Seen.TheVariants as seen
use Rattle.af_judge.proofs.Basics.{ahead_behind, ahead_itself, ahead_word, ahead_wrapped}

-- ## Words

behind_ahead : (f p : ℕ) → behind p (ahead f p) ≡ wrapped f
behind_ahead f p = omega arith

-- ## Tests

differs : (a b : ℕ) → (a ≡ b → ⊥) → (a == b) ≡ false
differs a b other = by_case (a == b) refl
  where
    by_case : (t : Bool) → (a == b) ≡ t → (a == b) ≡ false
    by_case true e = absurd (other (eqb-true a b e))
    by_case false e = e

-- a new flush that is noticed, if front and rear fit
pub noticed_new : (new wrapless out : Bool) → (new && (wrapless || not out)) ≡ false → out ≡ false → new ≡ false
noticed_new true true out e f = absurd (true≢false e)
noticed_new true false out e f = absurd (true≢false (ap not (sym f) ∙ e))
noticed_new false wrapless out e f = refl

module _ (k : Shape) (few : k.wrap ≤ 2 ^ 31) (old asked flush rear : ℕ) where
  -- the flush word is new
  new : Bool
  new = not (flush == old)

  pub flushed_so : (g d : ℕ) → is_noticed k (not (flush == old)) rear g ≡ true → dropped_by k.wrap flush rear g ≡ d → look_at k old asked flush rear g ≡ seen.Flushed d
  flushed_so g d noticed drops =
      ap (λ (b : Bool). if b then seen.Flushed (dropped_by k.wrap flush rear g) else if nat_lt k.frames (ahead g rear) then seen.Shut g rear else if rear == g then seen.Empty else seen.Frames (min asked (ahead g rear))) noticed
      ∙ ap seen.Flushed drops

  pub open_so : (g : ℕ) (out same : Bool) → is_noticed k (not (flush == old)) rear g ≡ false → nat_lt k.frames (ahead g rear) ≡ out → (rear == g) ≡ same
      → look_at k old asked flush rear g ≡ (if out then seen.Shut g rear else if same then seen.Empty else seen.Frames (min asked (ahead g rear)))
  open_so g out same noticed is_out is_same =
      ap (λ (b : Bool). if b then seen.Flushed (dropped_by k.wrap flush rear g) else if nat_lt k.frames (ahead g rear) then seen.Shut g rear else if rear == g then seen.Empty else seen.Frames (min asked (ahead g rear))) noticed
      ∙ ap (λ (b : Bool). if b then seen.Shut g rear else if rear == g then seen.Empty else seen.Frames (min asked (ahead g rear))) is_out
      ∙ ap (λ (b : Bool). if out then seen.Shut g rear else if b then seen.Empty else seen.Frames (min asked (ahead g rear))) is_same

  -- frames that some front shows
  frames_by : (f count : ℕ) → is_noticed k (not (flush == old)) rear f ≡ false → nat_lt k.frames (ahead f rear) ≡ false → count ≡ min asked (ahead f rear) → 1 ≤ count
      → look_at k old asked flush rear (behind rear count) ≡ seen.Frames count
  frames_by f count noticed inside is some =
      let small = ahead_word f rear in
      let back : ahead (behind rear count) rear ≡ count = ahead_behind count rear (omega (arith, is, small)) in
      let low = not_below_is k.frames (ahead f rear) inside in
      let other : rear ≡ behind rear count → ⊥ = λ e. let z = ahead_itself rear in let w : ahead rear rear ≡ count = ap (λ (g : ℕ). ahead g rear) e ∙ back in omega (arith, z, w, some) in
      open_so (behind rear count) false false
      (ap (λ (b : Bool). b && (k.wrap == 0 || not (nat_lt k.frames (ahead (behind rear count) rear)))) (noticed_new (not (flush == old)) (k.wrap == 0) (nat_lt k.frames (ahead f rear)) noticed inside))
      (is_not_below k.frames (ahead (behind rear count) rear) (omega (arith, back, low, is)))
      (differs rear (behind rear count) other)
      ∙ ap seen.Frames (let a : min asked (ahead (behind rear count) rear) ≡ count = omega (arith, back, is) in a)

  -- a flush on a block whose words carry no positions
  plain_flush : (f d : ℕ) → (k.wrap == 0) ≡ true → is_noticed k (not (flush == old)) rear f ≡ true → d ≡ dropped_by k.wrap flush rear f → look_at k old asked flush rear (flushed_front k.wrap flush rear d) ≡ seen.Flushed d
  plain_flush f d zero_wrap noticed is =
      let far : d ≡ ahead f rear = is ∙ ap (λ (b : Bool). if b then ahead f rear else past_front f (flush_position k.wrap flush rear)) zero_wrap in
      let small = ahead_word f rear in
      let back : ahead (behind rear d) rear ≡ d = ahead_behind d rear (omega (arith, far, small)) in
      ap (λ (b : Bool). look_at k old asked flush rear (if b then behind rear d else if d == 0 then rear else behind (flush_position k.wrap flush rear) d)) zero_wrap
      ∙ flushed_so (behind rear d) d
      (ap (λ (b : Bool). b && (k.wrap == 0 || not (nat_lt k.frames (ahead (behind rear d) rear)))) (both _ _ noticed).0 ∙ ap (λ (b : Bool). b || not (nat_lt k.frames (ahead (behind rear d) rear))) zero_wrap)
      (ap (λ (b : Bool). if b then ahead (behind rear d) rear else past_front (behind rear d) (flush_position k.wrap flush rear)) zero_wrap ∙ back)

  -- a position at most 2 ^ 31 before a front isn't past it
  none_past : (x : ℕ) → x ≤ 2 ^ 31 → past_front rear (wrapped (rear + (2 ^ 32 - x))) ≡ 0
  none_past x low = by_case (nat_lt (ahead rear (wrapped (rear + (2 ^ 32 - x)))) (2 ^ 31)) refl
    where
      by_case : (b : Bool) → nat_lt (ahead rear (wrapped (rear + (2 ^ 32 - x)))) (2 ^ 31) ≡ b → (if b then ahead rear (wrapped (rear + (2 ^ 32 - x))) else 0) ≡ 0
      by_case true e = let near = below_is (ahead rear (wrapped (rear + (2 ^ 32 - x)))) (2 ^ 31) e in omega (arith, low, near)
      by_case false e = refl

  -- a flush that drops nothing
  empty_flush : (f : ℕ) → (k.wrap == 0) ≡ false → is_noticed k (not (flush == old)) rear f ≡ true → ahead flush rear % k.wrap ≤ 2 ^ 31 → look_at k old asked flush rear rear ≡ seen.Flushed 0
  empty_flush f wraps noticed low =
      let z = ahead_itself rear in
      flushed_so rear 0
      (ap (λ (b : Bool). b && (k.wrap == 0 || not (nat_lt k.frames (ahead rear rear)))) (both _ _ noticed).0
      ∙ ap (λ (b : Bool). b || not (nat_lt k.frames (ahead rear rear))) wraps ∙ ap not (is_not_below k.frames (ahead rear rear) (omega (arith, z))))
      (ap (λ (b : Bool). if b then ahead rear rear else past_front rear (flush_position k.wrap flush rear)) wraps ∙ none_past (ahead flush rear % k.wrap) low)

  -- a flush that drops frames up to its position
  far_flush : (f d : ℕ) → (k.wrap == 0) ≡ false → is_noticed k (not (flush == old)) rear f ≡ true → d ≡ past_front f (flush_position k.wrap flush rear) → (d == 0) ≡ false
      → look_at k old asked flush rear (behind (flush_position k.wrap flush rear) d) ≡ seen.Flushed d
  far_flush f d wraps noticed is some = by_case (nat_lt (ahead f (flush_position k.wrap flush rear)) (2 ^ 31)) refl
    where
      at : ℕ
      at = flush_position k.wrap flush rear

      by_far : d ≡ ahead f (flush_position k.wrap flush rear) → look_at k old asked flush rear (behind (flush_position k.wrap flush rear) d) ≡ seen.Flushed d
      by_far far =
          ap (λ (x : ℕ). look_at k old asked flush rear (behind (flush_position k.wrap flush rear) x)) far
          ∙ ap (look_at k old asked flush rear) (behind_ahead f (flush_position k.wrap flush rear))
          ∙ flushed_so (wrapped f) d
          (ap (λ (x : ℕ). not (flush == old) && (k.wrap == 0 || not (nat_lt k.frames x))) (ahead_wrapped f rear) ∙ noticed)
          (ap (λ (b : Bool). if b then ahead (wrapped f) rear else past_front (wrapped f) (flush_position k.wrap flush rear)) wraps
          ∙ ap (λ (x : ℕ). if nat_lt x (2 ^ 31) then x else 0) (ahead_wrapped f (flush_position k.wrap flush rear)) ∙ sym is)

      by_case : (b : Bool) → nat_lt (ahead f (flush_position k.wrap flush rear)) (2 ^ 31) ≡ b → look_at k old asked flush rear (behind (flush_position k.wrap flush rear) d) ≡ seen.Flushed d
      by_case true e = by_far (is ∙ ap (λ (b : Bool). if b then ahead f (flush_position k.wrap flush rear) else 0) e)
      by_case false e = let none : d ≡ 0 = is ∙ ap (λ (b : Bool). if b then ahead f (flush_position k.wrap flush rear) else 0) e in absurd (true≢false (sym (ap (λ (x : ℕ). x == 0) none) ∙ some))

  any_flush : (f d : ℕ) → is_noticed k (not (flush == old)) rear f ≡ true → d ≡ dropped_by k.wrap flush rear f → look_at k old asked flush rear (flushed_front k.wrap flush rear d) ≡ seen.Flushed d
  any_flush f d noticed is = by_case (k.wrap == 0) refl (d == 0) refl
    where
      past : (k.wrap == 0) ≡ false → d ≡ past_front f (flush_position k.wrap flush rear)
      past wraps = is ∙ ap (λ (b : Bool). if b then ahead f rear else past_front f (flush_position k.wrap flush rear)) wraps

      front : (b c : Bool) → (k.wrap == 0) ≡ b → (d == 0) ≡ c → flushed_front k.wrap flush rear d ≡ (if b then behind rear d else if c then rear else behind (flush_position k.wrap flush rear) d)
      front b c e g = ap (λ (b : Bool). if b then behind rear d else if d == 0 then rear else behind (flush_position k.wrap flush rear) d) e
          ∙ ap (λ (c : Bool). if b then behind rear d else if c then rear else behind (flush_position k.wrap flush rear) d) g

      low : (k.wrap == 0) ≡ false → ahead flush rear % k.wrap ≤ 2 ^ 31
      low wraps = let some : 0 < k.wrap = grind (arith, nat_tests, wraps) in let m : ahead flush rear % k.wrap < k.wrap = mod-lt (ahead flush rear) some in omega (arith, m, few)

      by_case : (b : Bool) → (k.wrap == 0) ≡ b → (c : Bool) → (d == 0) ≡ c → look_at k old asked flush rear (flushed_front k.wrap flush rear d) ≡ seen.Flushed d
      by_case true zero_wrap c e = plain_flush f d zero_wrap noticed is
      by_case false wraps true none = ap (look_at k old asked flush rear) (front false true wraps none) ∙ empty_flush f wraps noticed (low wraps) ∙ ap seen.Flushed (sym (eqb-true d 0 none))
      by_case false wraps false some = ap (look_at k old asked flush rear) (front false false wraps some) ∙ far_flush f d wraps noticed (past wraps) some

-- if the look answers so by some front, it does by the one that the answer gives
pub answers_so : (k : Shape) → k.wrap ≤ 2 ^ 31 → (old asked : ℕ) (slot : SlotEntry) (f : ℕ) → IsSeen slot.seen → slot.seen ≡ look_at k old asked slot.flush slot.rear f → slot.seen ≡ look_at k old asked slot.flush slot.rear (front_by_answer k slot)
answers_so k few old asked slot f is_seen answers =
    by_case (is_noticed k (not (slot.flush == old)) slot.rear f) (nat_lt k.frames (ahead f slot.rear)) (slot.rear == f) refl refl refl
  where
    By : Seen → Type 0
    By s = IsSeen s → s ≡ look_at k old asked slot.flush slot.rear (front_by_answer k (record slot { seen = s }))

    open_is : (out same : Bool) → is_noticed k (not (slot.flush == old)) slot.rear f ≡ false → nat_lt k.frames (ahead f slot.rear) ≡ out → (slot.rear == f) ≡ same
        → look_at k old asked slot.flush slot.rear f ≡ (if out then seen.Shut f slot.rear else if same then seen.Empty else seen.Frames (min asked (ahead f slot.rear)))
    open_is out same n o e = open_so k few old asked slot.flush slot.rear f out same n o e

    by_case : (n o e : Bool) → is_noticed k (not (slot.flush == old)) slot.rear f ≡ n → nat_lt k.frames (ahead f slot.rear) ≡ o → (slot.rear == f) ≡ e → slot.seen ≡ look_at k old asked slot.flush slot.rear (front_by_answer k slot)
    by_case true o e noticed is_out is_same =
        let d : ℕ = dropped_by k.wrap slot.flush slot.rear f in
        let is : slot.seen ≡ seen.Flushed d = answers ∙ flushed_so k few old asked slot.flush slot.rear f d noticed refl in
        subst By (sym is) (λ h. sym (any_flush k few old asked slot.flush slot.rear f d noticed refl)) is_seen
    by_case false true e noticed is_out is_same =
        let shut = open_is true e noticed is_out is_same in
        subst By (sym (answers ∙ shut)) (λ h. sym shut) is_seen
    by_case false false true noticed is_out is_same =
        let empty = open_is false true noticed is_out is_same in
        subst By (sym (answers ∙ empty)) (λ h. sym (ap (look_at k old asked slot.flush slot.rear) (eqb-true slot.rear f is_same) ∙ empty)) is_seen
    by_case false false false noticed is_out is_same =
        let shows = open_is false false noticed is_out is_same in
        subst By (sym (answers ∙ shows)) (λ h. sym (frames_by k few old asked slot.flush slot.rear f (min asked (ahead f slot.rear)) noticed is_out refl h)) is_seen
