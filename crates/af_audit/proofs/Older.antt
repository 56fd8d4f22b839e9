-- The states of a run get newer with each turn.
use Rattle.std.proofs.Common.{◌≡◌, ◌⊎◌, inl, inr, ℕ, zero, suc, ◌+◌, ◌≤◌, if◌then◌else◌, Bool, true, false, List, [], ◌∷◌, length, refl, sym, ap, ◌∙◌, subst, arith}
use Rattle.af_audit.proofs.Common.{Busy, Clean, Command, FastState, FastTrack, Learnt, NormalKept, Push, Pushed, Setup, Turn, after_ack, after_edits, after_push, after_takes, after_tracks, attached, code_of, draft_commanded as with_command, edited, edited_to, lend, let_go, must_enter, must_leave, mutated, ordered, setting_of, slice_index_or, slice_set, slot_number, slot_of, track_at, turn_after}
use Rattle.std.specs.Prelude.{◌==◌}
use Rattle.af_model.specs.StateQueue.{no_fast_track}

-- no slot of the first has a later generation, and one of the same generation is the same
pub record IsOlder (x y : FastState) : Type 0 where
  pub low : (i : ℕ) → (slot_of x i).generation ≤ (slot_of y i).generation
  pub same : (i : ℕ) → (slot_of x i).generation ≡ (slot_of y i).generation → slot_of x i ≡ slot_of y i

-- ## Order

pub older_self : (x : FastState) → IsOlder x x
older_self x = record { low = λ i. omega arith; same = λ i e. refl }

pub older_both : (x y z : FastState) → IsOlder x y → IsOlder y z → IsOlder x z
older_both x y z h g = record {
  low = λ i. (let a = h.low i in let b = g.low i in omega (arith, a, b));
  same = λ i e. (let a = h.low i in let b = g.low i in
      h.same i (omega (arith, a, b, e)) ∙ g.same i (omega (arith, a, b, e)));
}

-- ## Edits

slot_set : (xs : List FastTrack) (k : ℕ) (t : FastTrack) (i : ℕ) → ((i ≡ k) × (slice_index_or (slice_set xs k t) i no_fast_track ≡ t)) ⊎ (slice_index_or (slice_set xs k t) i no_fast_track ≡ slice_index_or xs i no_fast_track)
slot_set [] k t i = inr refl
slot_set (x ∷ xs) zero t zero = inl (refl, refl)
slot_set (x ∷ xs) zero t (suc i) = inr refl
slot_set (x ∷ xs) (suc k) t zero = inr refl
slot_set (x ∷ xs) (suc k) t (suc i) = elim (slot_set xs k t i) as (λ w. ((suc i ≡ suc k) × (slice_index_or (slice_set xs k t) i no_fast_track ≡ t)) ⊎ (slice_index_or (slice_set xs k t) i no_fast_track ≡ slice_index_or xs i no_fast_track)) [
  | inl p ↦ inl (ap suc p.0, p.1)
  | inr q ↦ inr q
]

older_slot : (x y : FastState) → ((i : ℕ) → ((slot_of y i).generation ≡ (slot_of x i).generation + 1) ⊎ (slot_of y i ≡ slot_of x i)) → IsOlder x y
older_slot x y h = record {
  low = λ i. low i (h i);
  same = λ i e. same i (h i) e;
}
  where
    low : (i : ℕ) → ((slot_of y i).generation ≡ (slot_of x i).generation + 1) ⊎ (slot_of y i ≡ slot_of x i) → (slot_of x i).generation ≤ (slot_of y i).generation
    low i (inl p) = omega (arith, p)
    low i (inr q) = let g = ap (λ (t : FastTrack). t.generation) q in omega (arith, g)

    same : (i : ℕ) → ((slot_of y i).generation ≡ (slot_of x i).generation + 1) ⊎ (slot_of y i ≡ slot_of x i) → (slot_of x i).generation ≡ (slot_of y i).generation → slot_of x i ≡ slot_of y i
    same i (inl p) e = absurd (omega (arith, p, e))
    same i (inr q) e = sym q

older_attached : (slot : ℕ) (mono : Bool) (scale track : ℕ) (x : FastState) → IsOlder x (attached slot mono scale track x)
older_attached slot mono scale track x = older_slot x (attached slot mono scale track x) (λ i. by_place i (slot_set x.slots slot (record { generation = (slot_of x slot).generation + 1; track = track; mono = mono; scale = scale }) i))
  where
    by_place : (i : ℕ) → ((i ≡ slot) × (slot_of (attached slot mono scale track x) i ≡ (record { generation = (slot_of x slot).generation + 1; track = track; mono = mono; scale = scale }))) ⊎ (slot_of (attached slot mono scale track x) i ≡ slot_of x i)
        → ((slot_of (attached slot mono scale track x) i).generation ≡ (slot_of x i).generation + 1) ⊎ (slot_of (attached slot mono scale track x) i ≡ slot_of x i)
    by_place i (inl p) = inl (ap (λ (t : FastTrack). t.generation) p.1 ∙ ap (λ (j : ℕ). (slot_of x j).generation + 1) (sym p.0))
    by_place i (inr q) = inr q

either_older : (x : FastState) (b : Bool) (m n : NormalKept) → IsOlder x m.draft → IsOlder x n.draft → IsOlder x (if b then m else n).draft
either_older x true m n h g = h
either_older x false m n h g = g

module _ (c : Setup) (k : Learnt) where
  older_edited : (i : ℕ) (m : NormalKept) → IsOlder m.draft (edited c k i m).draft
  unfolding edited let_go lend
  older_edited i m = either_older m.draft (must_leave (track_at m.tracks i)) (let_go i m) (if must_enter (track_at m.tracks i) then lend c i (k.own i) m else m)
      (older_slot m.draft (let_go i m).draft (λ j. inr refl))
      (either_older m.draft (must_enter (track_at m.tracks i)) (lend c i (k.own i) m) m (older_attached (slot_number (track_at m.tracks i)) (setting_of c i).mono (setting_of c i).scale i m.draft) (older_self m.draft))

  older_edits : (m : NormalKept) (n : ℕ) → IsOlder m.draft (edited_to c k m n).draft
  older_edits m zero = older_self m.draft
  older_edits m (suc n) = older_both m.draft (edited_to c k m n).draft (edited_to c k m (suc n)).draft (older_edits m n) (older_edited n (edited_to c k m n))

  older_ordered : (command : Command) (m : NormalKept) → IsOlder m.draft (ordered command m).draft
  unfolding ordered
  older_ordered command m = either_older m.draft (code_of command == code_of m.draft.command) m (record m { draft = with_command command m.draft; dirty = true }) (older_self m.draft) (older_slot m.draft (with_command command m.draft) (λ j. inr refl))

  older_mutated : (room : ℕ) (m : NormalKept) → IsOlder m.draft (mutated c k room m).draft
  unfolding mutated
  older_mutated room m = older_both m.draft (edited_to c k m (length m.tracks)).draft (mutated c k room m).draft (older_edits m (length m.tracks)) (older_ordered _ (edited_to c k m (length m.tracks)))

  acked_draft : (ack : Bool) (m : NormalKept) → (after_ack ack m).draft ≡ m.draft
  acked_draft true m = refl
  acked_draft false m = refl

  pushed_draft : (push : Push) (m : NormalKept) → (after_push push m).draft ≡ m.draft
  pushed_draft (Pushed number) m = refl
  pushed_draft Clean m = refl
  pushed_draft (Busy seen expected) m = refl

  -- the draft that a turn's edits leave
  pub older_draft : (m : NormalKept) (e : Turn) → IsOlder m.draft (after_edits c k e m).draft
  older_draft m e = subst (λ (x : FastState). IsOlder x (after_edits c k e m).draft) (acked_draft e.ack m) (older_mutated e.room (after_tracks c k e (after_ack e.ack m)))

  -- the draft that a turn leaves is the one that its edits leave, if the turn goes on
  pub draft_goes : (m : NormalKept) (e : Turn) → e.ended ≡ false → (turn_after c k m e).draft ≡ (after_edits c k e m).draft
  unfolding turn_after
  draft_goes m e runs = ap (λ (b : Bool). (if b then record m { ended = true } else after_takes c e.mixes (after_push e.push (after_edits c k e m))).draft) runs ∙ pushed_draft e.push (after_edits c k e m)

  pub draft_ends : (m : NormalKept) (e : Turn) → e.ended ≡ true → (turn_after c k m e).draft ≡ m.draft
  unfolding turn_after
  draft_ends m e done = ap (λ (b : Bool). (if b then record m { ended = true } else after_takes c e.mixes (after_push e.push (after_edits c k e m))).draft) done
