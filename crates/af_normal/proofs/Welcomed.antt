-- What the return of one proxy changes, and what it leaves.
use Rattle.std.proofs.Common.{◌≡◌, ◌≢◌, ℕ, ◌<◌, ◌≤◌, true, true≢false, length, slice_set, sym, ap, subst, ◌∙◌, ⊎_elim, get_or-set_other, get_or-set_same, length-set}
use Rattle.af_normal.proofs.Common.{Home, ServerState, TrackKept, at, by_bool, cases_eq, is_returning, new_track, slot_number, slots, track_at}
use Rattle.af_normal.specs.Coming.{HaveSlots, Welcomes, has_back, takes_back}
use Rattle.af_normal.specs.State.{NormalState}
use Rattle.af_normal.proofs.Cases.{by_item}

module _ (i : ℕ) (x y : NormalState) where
  abbrev asks : NormalState
  asks = record x { mutator = takes_back (slot_number (track_at x.tracks i)) x.mutator }

  pub by_return : (R : Type 0) → (y ≡ asks → R) → ((server : ServerState) → y ≡ has_back i server asks → R) → (y ≡ x → R) → Welcomes i x y → R
  by_return R f g h w = by_bool (is_returning (track_at x.tracks i).holder) _ _ R
      (λ m. by_item (at x.mutator.returned (slot_number (track_at x.tracks i))) _ _ R f g m) h w

  pub welcomed_long : Welcomes i x y → (length y.tracks ≡ length x.tracks) × (length y.streams ≡ length x.streams)
  welcomed_long w = by_return ((length y.tracks ≡ length x.tracks) × (length y.streams ≡ length x.streams))
      (λ e. (ap (λ (z : NormalState). length z.tracks) e, ap (λ (z : NormalState). length z.streams) e))
      (λ server e. (ap (λ (z : NormalState). length z.tracks) e ∙ length-set x.tracks i _, ap (λ (z : NormalState). length z.streams) e ∙ length-set x.streams i _))
      (λ e. (ap (λ (z : NormalState). length z.tracks) e, ap (λ (z : NormalState). length z.streams) e)) w

  abbrev HasSlot : TrackKept → Type 0
  HasSlot s = is_returning s.holder ≡ true → (1 ≤ slot_number s) × (slot_number s < slots)

  same_slots : (k : ℕ) → track_at y.tracks k ≡ track_at x.tracks k → HasSlot (track_at x.tracks k) → HasSlot (track_at y.tracks k)
  same_slots k e h = subst HasSlot (sym e) h

  pub welcomed_slots : i < length x.tracks → HaveSlots x.tracks → Welcomes i x y → HaveSlots y.tracks
  welcomed_slots lt h w = λ k. by_return (HasSlot (track_at y.tracks k))
      (λ e. same_slots k (ap (λ (z : NormalState). track_at z.tracks k) e) (h k))
      (λ server e. ⊎_elim
      (λ (same : k ≡ i). subst HasSlot
      (sym (ap (λ (z : NormalState). track_at z.tracks k) e
      ∙ ap (λ (n : ℕ). track_at (slice_set x.tracks i (record (track_at x.tracks i) { holder = Home })) n) same
      ∙ get_or-set_same x.tracks i (record (track_at x.tracks i) { holder = Home }) new_track lt))
      (λ back. absurd (true≢false (sym back))))
      (λ (ne : k ≢ i). same_slots k (ap (λ (z : NormalState). track_at z.tracks k) e ∙ get_or-set_other x.tracks i k _ new_track ne) (h k))
      (cases_eq k i))
      (λ e. same_slots k (ap (λ (z : NormalState). track_at z.tracks k) e) (h k)) w
