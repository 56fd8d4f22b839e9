-- What a look leaves of its server is the same by each front by which it may have answered so.
use Rattle.std.proofs.Common.{◌≡◌, ℕ, ◌^◌, ◌==◌, ◌&&◌, ◌||◌, not, min, nat_lt, Bool, true, false, true≢false, if◌then◌else◌, Some, None, refl, sym, ap, ◌∙◌, subst, eqb-true, arith}
use Rattle.af_told_law.proofs.Common.{Listed, Seen, Shape, SlotEntry, ahead, ahead_behind, ahead_itself, ahead_word, behind, both, dropped_by, flush_position, flushed_front, front_by_answer, front_of, is_not_below, is_noticed, is_own_inside, kept, leaves_open, look_at, not_below_is, not_true, or_true, outside, own_front, past_front, wrapped}
use Rattle.af_base.specs.declared.seen.Seen.TheVariants as seen
use Rattle.af_judge.proofs.LookFront.{noticed_new}

-- both fronts are noticed alike, and if they aren't noticed both lie alike in the block
abbrev pub Leaves : Shape → (old flush rear f g : ℕ) → Type 0
Leaves k old flush rear f g = (is_noticed k (not (flush == old)) rear f ≡ is_noticed k (not (flush == old)) rear g) × (is_noticed k (not (flush == old)) rear f ≡ false → outside k.frames f rear ≡ outside k.frames g rear)

ahead_back : (f p r : ℕ) → ahead (behind p (ahead f p)) r ≡ ahead f r
ahead_back f p r = (let b : behind p (ahead f p) ≡ wrapped f = omega arith in ap (λ (g : ℕ). ahead g r) b) ∙ (let e : ahead (wrapped f) r ≡ ahead f r = omega arith in e)

module _ (k : Shape) (old asked : ℕ) (slot : SlotEntry) (f : ℕ) (answers : slot.seen ≡ look_at k old asked slot.flush slot.rear f) where
  abbrev at : ℕ
  at = flush_position k.wrap slot.flush slot.rear

  abbrev Same : ℕ → Type 0
  Same g = Leaves k old slot.flush slot.rear f g

  -- P holds of the answer if it holds of each answer that the look may give
  pub by_answer : (P : Seen → Type 0) → (is_noticed k (not (slot.flush == old)) slot.rear f ≡ true → P (seen.Flushed (dropped_by k.wrap slot.flush slot.rear f)))
      → (is_noticed k (not (slot.flush == old)) slot.rear f ≡ false → nat_lt k.frames (ahead f slot.rear) ≡ true → P (seen.Shut f slot.rear))
      → (is_noticed k (not (slot.flush == old)) slot.rear f ≡ false → nat_lt k.frames (ahead f slot.rear) ≡ false → slot.rear ≡ f → P seen.Empty)
      → (is_noticed k (not (slot.flush == old)) slot.rear f ≡ false → nat_lt k.frames (ahead f slot.rear) ≡ false → P (seen.Frames (min asked (ahead f slot.rear)))) → P slot.seen
  by_answer P flushed shut empty frames = by_case (is_noticed k (not (slot.flush == old)) slot.rear f) (nat_lt k.frames (ahead f slot.rear)) (slot.rear == f) refl refl refl
    where
      shows : Bool → Bool → Bool → Seen
      shows n o e = if n then seen.Flushed (dropped_by k.wrap slot.flush slot.rear f) else if o then seen.Shut f slot.rear else if e then seen.Empty else seen.Frames (min asked (ahead f slot.rear))

      is_so : (n o e : Bool) → is_noticed k (not (slot.flush == old)) slot.rear f ≡ n → nat_lt k.frames (ahead f slot.rear) ≡ o → (slot.rear == f) ≡ e → slot.seen ≡ shows n o e
      is_so n o e noticed is_out is_same = answers ∙ (λ j. shows (noticed j) (is_out j) (is_same j))

      by_case : (n o e : Bool) → is_noticed k (not (slot.flush == old)) slot.rear f ≡ n → nat_lt k.frames (ahead f slot.rear) ≡ o → (slot.rear == f) ≡ e → P slot.seen
      by_case true o e noticed is_out is_same = subst P (sym (is_so true o e noticed is_out is_same)) (flushed noticed)
      by_case false true e noticed is_out is_same = subst P (sym (is_so false true e noticed is_out is_same)) (shut noticed is_out)
      by_case false false true noticed is_out is_same = subst P (sym (is_so false false true noticed is_out is_same)) (empty noticed is_out (eqb-true slot.rear f is_same))
      by_case false false false noticed is_out is_same = subst P (sym (is_so false false false noticed is_out is_same)) (frames noticed is_out)

  outside_none : (g : ℕ) → nat_lt k.frames (ahead g slot.rear) ≡ false → outside k.frames g slot.rear ≡ None
  outside_none g inside = ap (λ (b : Bool). if b then Some (g, slot.rear) else None) inside

  -- if no flush was noticed and the front lay in the block, any other one in the block leaves the same
  both_inside : (g : ℕ) → is_noticed k (not (slot.flush == old)) slot.rear f ≡ false → nat_lt k.frames (ahead f slot.rear) ≡ false → nat_lt k.frames (ahead g slot.rear) ≡ false → Same g
  both_inside g off inside in_too =
      let old_word : not (slot.flush == old) ≡ false = noticed_new (not (slot.flush == old)) (k.wrap == 0) (nat_lt k.frames (ahead f slot.rear)) off inside in
      (off ∙ sym (ap (λ (b : Bool). b && (k.wrap == 0 || not (nat_lt k.frames (ahead g slot.rear)))) old_word), λ _. outside_none f inside ∙ sym (outside_none g in_too))

  -- if a flush was noticed, it is noticed by each front that lies in the block
  both_notice : (g : ℕ) → is_noticed k (not (slot.flush == old)) slot.rear f ≡ true → (k.wrap == 0 || not (nat_lt k.frames (ahead g slot.rear))) ≡ true → Same g
  both_notice g on fits =
      let new_word : not (slot.flush == old) ≡ true = (both _ _ on).0 in
      let too : is_noticed k (not (slot.flush == old)) slot.rear g ≡ true = (λ j. new_word j && fits j) in
      (on ∙ sym too, λ off. absurd (true≢false (sym on ∙ off)))

  notice_inside : (g : ℕ) → is_noticed k (not (slot.flush == old)) slot.rear f ≡ true → nat_lt k.frames (ahead g slot.rear) ≡ false → Same g
  notice_inside g on inside = both_notice g on (ap (λ (b : Bool). k.wrap == 0 || not b) inside ∙ or_true (k.wrap == 0))

  -- if the answer leaves the front open, one in the block leaves the same
  pub open_leaves : (g : ℕ) → leaves_open k asked slot.seen ≡ true → nat_lt k.frames (ahead g slot.rear) ≡ false → Same g
  open_leaves g = by_answer (λ (s : Seen). leaves_open k asked s ≡ true → nat_lt k.frames (ahead g slot.rear) ≡ false → Same g)
      (λ on opens inside. notice_inside g on inside)
      (λ off out opens inside. absurd (true≢false (sym opens)))
      (λ off in_block same opens inside. absurd (true≢false (sym opens)))
      (λ off in_block opens inside. both_inside g off in_block inside)

  -- the front of a flush by its answer leaves the same
  flush_leaves : is_noticed k (not (slot.flush == old)) slot.rear f ≡ true → Same (flushed_front k.wrap slot.flush slot.rear (dropped_by k.wrap slot.flush slot.rear f))
  flush_leaves on = by_wrap (k.wrap == 0) refl
    where
      front : Bool → ℕ → ℕ
      front b d = if b then behind slot.rear d else if d == 0 then slot.rear else behind at d

      by_near : (b : Bool) → (k.wrap == 0) ≡ false → nat_lt (ahead f at) (2 ^ 31) ≡ b → ((if b then ahead f at else 0) == 0) ≡ false → Same (behind at (if b then ahead f at else 0))
      by_near true placed e some =
          let fits : (false || not (nat_lt k.frames (ahead f slot.rear))) ≡ true = ap (λ (b : Bool). b || not (nat_lt k.frames (ahead f slot.rear))) (sym placed) ∙ (both _ _ on).1 in
          notice_inside (behind at (ahead f at)) on (ap (nat_lt k.frames) (ahead_back f at slot.rear) ∙ not_true _ fits)
      by_near false placed e some = absurd (true≢false some)

      by_some : (c : Bool) → (k.wrap == 0) ≡ false → (past_front f at == 0) ≡ c → Same (if c then slot.rear else behind at (past_front f at))
      by_some true placed is = notice_inside slot.rear on (ap (nat_lt k.frames) (ahead_itself slot.rear) ∙ is_not_below k.frames 0 (omega arith))
      by_some false placed is = by_near (nat_lt (ahead f at) (2 ^ 31)) placed refl is

      by_wrap : (b : Bool) → (k.wrap == 0) ≡ b → Same (flushed_front k.wrap slot.flush slot.rear (dropped_by k.wrap slot.flush slot.rear f))
      by_wrap true flat = both_notice (flushed_front k.wrap slot.flush slot.rear (dropped_by k.wrap slot.flush slot.rear f)) on (ap (λ (b : Bool). b || not (nat_lt k.frames (ahead (flushed_front k.wrap slot.flush slot.rear (dropped_by k.wrap slot.flush slot.rear f)) slot.rear))) flat)
      by_wrap false placed = subst Same (sym (λ j. front (placed j) (if placed j then ahead f slot.rear else past_front f at))) (by_some (past_front f at == 0) placed refl)

  -- the front that the answer tells leaves the same
  pub answer_leaves : Same (front_by_answer k slot)
  answer_leaves = by_answer (λ (s : Seen). Same (front_by_answer k (record slot { seen = s })))
      flush_leaves
      (λ off out. (refl, λ _. refl))
      (λ off inside same. subst Same (sym same) (refl, λ _. refl))
      (λ off inside.
      let small = ahead_word f slot.rear in
      let back : ahead (behind slot.rear (min asked (ahead f slot.rear))) slot.rear ≡ min asked (ahead f slot.rear) = ahead_behind (min asked (ahead f slot.rear)) slot.rear (omega (arith, small)) in
      let low = not_below_is k.frames (ahead f slot.rear) inside in
      both_inside (behind slot.rear (min asked (ahead f slot.rear))) off inside (is_not_below k.frames (ahead (behind slot.rear (min asked (ahead f slot.rear))) slot.rear) (omega (arith, back, low))))

-- the front that a journal tells leaves the same
pub told_leaves : (asked : ℕ) (s : Listed) (slot : SlotEntry) (f : ℕ) → slot.seen ≡ look_at s.shape (kept s).flush asked slot.flush slot.rear f → Leaves s.shape (kept s).flush slot.flush slot.rear f (front_of asked s slot)
told_leaves asked s slot f answers = by_open (leaves_open s.shape asked slot.seen) (is_own_inside s slot.rear) refl refl
  where
    by_open : (a b : Bool) → leaves_open s.shape asked slot.seen ≡ a → is_own_inside s slot.rear ≡ b
        → Leaves s.shape (kept s).flush slot.flush slot.rear f (if leaves_open s.shape asked slot.seen && is_own_inside s slot.rear then own_front s.shape (kept s) else front_by_answer s.shape slot)
    by_open true true opens inside =
        subst (λ (c : Bool). Leaves s.shape (kept s).flush slot.flush slot.rear f (if c then own_front s.shape (kept s) else front_by_answer s.shape slot)) (sym (λ j. opens j && inside j))
        (open_leaves s.shape (kept s).flush asked slot f answers (own_front s.shape (kept s)) opens (not_true _ inside))
    by_open true false opens inside =
        subst (λ (c : Bool). Leaves s.shape (kept s).flush slot.flush slot.rear f (if c then own_front s.shape (kept s) else front_by_answer s.shape slot)) (sym (λ j. opens j && inside j))
        (answer_leaves s.shape (kept s).flush asked slot f answers)
    by_open false b opens inside =
        subst (λ (c : Bool). Leaves s.shape (kept s).flush slot.flush slot.rear f (if c then own_front s.shape (kept s) else front_by_answer s.shape slot)) (sym (λ j. opens j && inside j))
        (answer_leaves s.shape (kept s).flush asked slot f answers)
