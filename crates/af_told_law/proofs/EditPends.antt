-- Which slots have an item that waits for a push, while a turn edits the draft.
use Rattle.std.proofs.Common.{◌≡◌, ◌≢◌, ℕ, zero, suc, ◌<◌, ◌≤◌, ◌&&◌, not, Bool, true, false, true≢false, MatchBool, is_some, refl, sym, ap, subst, ◌∙◌, length, Some, None, ⊎_elim, get_or-set_same, get_or-set_other, arith}
use Rattle.af_told_law.proofs.Common.{EditsTo, EditsTrack, FastState, IsSound, Lends, LetsGo, Mutates, NormalState, ServerState, StreamNames, at, carries, cases_eq, comer_slot, detached, entered, kept_of, leaver_slot, must_enter, must_leave, nothing_heard, setting_of, setup_of, slice_set, slot_number, slots, track_at}
use Rattle.af_stateq.proofs.Bits.{attached_here, attached_else, detached_here, detached_else}
use Rattle.af_told_law.proofs.AckPlaces.{none_set}
use Rattle.af_told_law.proofs.EditPlaces.{Placed, all_placed}

-- an item waits exactly if the draft carries one that the last state pushed doesn't
abbrev pub Pends : FastState → Mutates ServerState StreamNames → Type 0
Pends last m = (k : ℕ) → k < slots → is_some (at m.pending k) ≡ (carries m.draft k && not (carries last k))

and_no : (a b : Bool) → a ≡ false → false ≡ (a && b)
and_no true b e = absurd (true≢false e)
and_no false b e = refl

and_yes : (a b : Bool) → a ≡ true → b ≡ false → true ≡ (a && not b)
and_yes true true e f = f
and_yes true false e f = refl
and_yes false b e f = sym e

module _ (x : NormalState) (fine : (i : ℕ) → (setting_of (setup_of x) i).scale ≤ 4096) (last : FastState) (free : (j : ℕ) → must_enter (track_at x.tracks j) ≡ true → carries last (slot_number (track_at x.tracks j)) ≡ false) where
  module _ (i : ℕ) (z : NormalState) (b : Placed x fine i z) (pends : Pends last z.mutator) where
    abbrev slot : ℕ
    slot = slot_number (track_at z.tracks i)

    goes : (y : NormalState) → must_leave (track_at z.tracks i) ≡ true → LetsGo i z y → Pends last y.mutator
    goes y leaves l = subst (λ (w : NormalState). Pends last w.mutator) (sym l) (λ k low. ⊎_elim
        (λ (e : k ≡ slot). subst (λ (n : ℕ). is_some (at (slice_set z.mutator.pending slot None) n) ≡ (carries (detached slot z.mutator.draft) n && not (carries last n))) (sym e)
        (ap is_some (none_set z.mutator.pending slot) ∙ and_no (carries (detached slot z.mutator.draft) slot) _ (detached_here slot z.mutator.draft at_slot.0 at_slot.1)))
        (λ (ne : k ≢ slot). ap is_some (get_or-set_other z.mutator.pending slot k None None ne) ∙ pends k low
        ∙ ap (λ (c : Bool). c && not (carries last k)) (sym (detached_else slot z.mutator.draft at_slot.0 at_slot.1 k low ne)))
        (cases_eq k slot))
      where
        at_slot : (1 ≤ slot_number (track_at z.tracks i)) × (slot_number (track_at z.tracks i) < slots)
        at_slot = leaver_slot (kept_of z) b.sound i leaves

    comes : (y : NormalState) → must_enter (track_at z.tracks i) ≡ true → Lends i z y → Pends last y.mutator
    comes y enters (server, there, l) = subst (λ (w : NormalState). Pends last w.mutator) (sym l) (λ k low. ⊎_elim
        (λ (e : k ≡ slot). subst (λ (n : ℕ). is_some (at (slice_set z.mutator.pending slot (Some server)) n) ≡ (carries (entered (setup_of z) i (kept_of z)) n && not (carries last n))) (sym e)
        (ap is_some (get_or-set_same z.mutator.pending slot (Some server) None (let w = b.wide in let h = at_slot.1 in omega arith))
        ∙ and_yes (carries (entered (setup_of z) i (kept_of z)) slot) (carries last slot)
        (attached_here slot (setting_of (setup_of z) i).mono (setting_of (setup_of z) i).scale i z.mutator.draft at_slot.0 at_slot.1 b.sound.state)
        (ap (carries last) (b.slot_same i) ∙ free i (ap must_enter (sym (b.later i (omega arith))) ∙ enters))))
        (λ (ne : k ≢ slot). ap is_some (get_or-set_other z.mutator.pending slot k (Some server) None ne) ∙ pends k low
        ∙ ap (λ (c : Bool). c && not (carries last k)) (sym (attached_else slot (setting_of (setup_of z) i).mono (setting_of (setup_of z) i).scale i z.mutator.draft at_slot.0 at_slot.1 b.sound.state k ne)))
        (cases_eq k slot))
      where
        at_slot : (1 ≤ slot_number (track_at z.tracks i)) × (slot_number (track_at z.tracks i) < slots)
        at_slot = comer_slot (kept_of z) b.sound (setup_of z) i nothing_heard enters

    next : (y : NormalState) → EditsTrack i z y → Pends last y.mutator
    next y e = by_leave (must_leave (track_at z.tracks i)) refl e
      where
        by_enter : (d : Bool) → must_enter (track_at z.tracks i) ≡ d → MatchBool d (Lends i z y) (y ≡ z) → Pends last y.mutator
        by_enter true is l = comes y is l
        by_enter false is l = subst (λ (w : NormalState). Pends last w.mutator) (sym l) pends

        by_leave : (d : Bool) → must_leave (track_at z.tracks i) ≡ d → MatchBool d (LetsGo i z y) (MatchBool (must_enter (track_at z.tracks i)) (Lends i z y) (y ≡ z)) → Pends last y.mutator
        by_leave true is l = goes y is l
        by_leave false is l = by_enter (must_enter (track_at z.tracks i)) refl l

  -- which items wait after the first tracks were edited
  pub all_pend : IsSound x.tracks x.mutator.draft → length x.mutator.pending ≡ slots → Pends last x.mutator → (n : ℕ) (y : NormalState) → EditsTo n x y → Pends last y.mutator
  all_pend sound wide pends zero y e = subst (λ (w : NormalState). Pends last w.mutator) (sym e) pends
  all_pend sound wide pends (suc n) y (z, before, e) = next n z (all_placed x fine sound wide n z before) (all_pend sound wide pends n z before) y e
