-- The slots that a draft carries, before any edit and after one.
use Rattle.std.proofs.Common.{◌≡◌, ◌≢◌, ℕ, zero, suc, refl, ◌-◌, ◌^◌, ◌<◌, ◌≤◌, ◌==◌, ◌&&◌, not, true, false, Bool, bit_and, bit_or, ap, sym, ◌∙◌, subst, arith, length-set, eq-eqb, ne_eqb}
use Rattle.af_life.proofs.Common.{FastState, FastTrack, IsState, attached, carries, clear_other, clear_same, detached, get_or-replicate, get_or-set_other, get_or-set_same, initial, set_other, set_same, slot_of}
use Rattle.std.specs.Int.{bit_at}
use Rattle.std.proofs.lemmas.Nat.Bits.{bit_at-suc, bit_at-zero}
use mathlib.Core.Logic.{dite}
use native.Mathlib.Decide.{ℕ_discrete}
use Rattle.af_model.specs.StateQueue.{slots, no_fast_track}
use Rattle.std.specs.Prelude.{◌+◌}

module _ (slot : ℕ) (mono : Bool) (scale track : ℕ) (x : FastState) (low : 1 ≤ slot) (lt : slot < slots) (state : IsState x) where
  abbrev y : FastState
  y = attached slot mono scale track x

  pub attached_here : carries y slot ≡ true
  attached_here = ap (λ b. not b && (bit_at (bit_or x.mask (2 ^ slot)) slot == 1)) (ne_eqb slot 0 (λ e. omega arith)) ∙ eq-eqb _ 1 (set_same x.mask slot)

  pub attached_else : (i : ℕ) → i ≢ slot → carries y i ≡ carries x i
  attached_else i ne = ap (λ b. not (i == 0) && (b == 1)) (set_other x.mask slot i ne)

  pub slot_here : slot_of y slot ≡ (record { generation = (slot_of x slot).generation + 1; track = track; mono = mono; scale = scale })
  slot_here = get_or-set_same x.slots slot _ no_fast_track (let w = state.whole in omega arith)

  pub slot_else : (i : ℕ) → i ≢ slot → slot_of y i ≡ slot_of x i
  slot_else i ne = get_or-set_other x.slots slot i _ no_fast_track ne

  pub attached_state : scale ≤ 4096 → IsState y
  attached_state fine = record {
    whole = length-set x.slots slot _ ∙ state.whole;
    submix = set_other x.mask slot 0 (λ e. omega arith) ∙ state.submix;
    scaled = λ i li. dite (ℕ_discrete i slot)
        (λ e. subst (λ k. (slot_of y k).scale ≤ 4096) (sym e) (subst (λ (t : FastTrack). t.scale ≤ 4096) (sym slot_here) fine))
        (λ ne. subst (λ (t : FastTrack). t.scale ≤ 4096) (sym (slot_else i ne)) (state.scaled i li));
  }

module _ (slot : ℕ) (x : FastState) (low : 1 ≤ slot) (lt : slot < slots) where
  abbrev z : FastState
  z = detached slot x

  pub detached_here : carries z slot ≡ false
  detached_here = ap (λ b. not b && (bit_at (bit_and x.mask (2 ^ 32 - 1 - 2 ^ slot)) slot == 1)) (ne_eqb slot 0 (λ e. omega arith))
      ∙ ne_eqb (bit_at (bit_and x.mask (2 ^ 32 - 1 - 2 ^ slot)) slot) 1 (λ e. let c = clear_same x.mask slot (omega arith) in omega arith)

  pub detached_else : (i : ℕ) → i < slots → i ≢ slot → carries z i ≡ carries x i
  detached_else i li ne = ap (λ b. not (i == 0) && (b == 1)) (clear_other x.mask slot i (omega arith) (omega arith) ne)

  pub detached_state : IsState x → IsState z
  detached_state state = record {
    whole = state.whole;
    submix = clear_other x.mask slot 0 (omega arith) (omega arith) (λ e. omega arith) ∙ state.submix;
    scaled = state.scaled;
  }

-- ## Before any edit

module _ (frames : ℕ) where
  pub initial_none : (i : ℕ) → carries (initial frames) i ≡ false
  initial_none zero = refl
  initial_none (suc i) = ap (λ (b : Bool). not b && (bit_at 1 (suc i) == 1)) (ne_eqb (suc i) 0 (λ e. omega arith)) ∙ ap (λ (n : ℕ). n == 1) (bit_at-suc 1 i ∙ bit_at-zero i)

  scaled : (i : ℕ) → i < slots → (slot_of (initial frames) i).scale ≤ 4096
  scaled zero lt = omega arith
  scaled (suc i) lt = let e : (slot_of (initial frames) (suc i)).scale ≡ 0 = ap (λ (t : FastTrack). t.scale) (get_or-replicate (slots - 1) i no_fast_track no_fast_track (omega arith)) in omega arith

  pub initial_state : IsState (initial frames)
  initial_state = record { whole = refl; submix = refl; scaled = scaled }
