-- The slots that a draft carries after an edit.
use Rattle.std.proofs.Common.{◌≡◌, ◌≢◌, ℕ, ◌-◌, ◌^◌, ◌<◌, ◌≤◌, ◌==◌, ◌&&◌, not, true, false, Bool, bit_and, bit_or, ap, sym, ◌∙◌, subst, arith, length-set, eq-eqb, ne_eqb}
use Rattle.af_stateq.proofs.Common.{FastState, FastTrack, IsState, attached, bit_at, carries, clear_other, clear_same, detached, get_or-set_other, get_or-set_same, no_fast_track, set_other, set_same, slot_of, slots}
use mathlib.Core.Logic.{dite}
use native.Mathlib.Decide.{ℕ_discrete}
use Rattle.std.specs.Prelude.{◌+◌}

module _ (slot : ℕ) (mono : Bool) (scale track : ℕ) (x : FastState) (low : 1 ≤ slot) (lt : slot < slots) (state : IsState x) where
  abbrev y : FastState
  y = attached slot mono scale track x

  pub attached_here : carries y slot ≡ true
  attached_here = ap (λ b. not b && (bit_at (bit_or x.mask (2 ^ slot)) slot == 1)) (ne_eqb slot 0 (λ e. omega arith)) ∙ eq-eqb _ 1 (set_same x.mask slot)

  pub attached_else : (i : ℕ) → i ≢ slot → carries y i ≡ carries x i
  attached_else i ne = ap (λ b. not (i == 0) && (b == 1)) (set_other x.mask slot i ne)

  pub slot_here : slot_of y slot ≡ (record { generation = (slot_of x slot).generation + 1; track = track; mono = mono; scale = scale })
  slot_here = get_or-set_same x.slots slot _ no_fast_track (let w = state.whole in omega arith)

  pub slot_else : (i : ℕ) → i ≢ slot → slot_of y i ≡ slot_of x i
  slot_else i ne = get_or-set_other x.slots slot i _ no_fast_track ne

  pub attached_state : scale ≤ 4096 → IsState y
  attached_state fine = record {
    whole = length-set x.slots slot _ ∙ state.whole;
    submix = set_other x.mask slot 0 (λ e. omega arith) ∙ state.submix;
    scaled = λ i li. dite (ℕ_discrete i slot)
        (λ e. subst (λ k. (slot_of y k).scale ≤ 4096) (sym e) (subst (λ (t : FastTrack). t.scale ≤ 4096) (sym slot_here) fine))
        (λ ne. subst (λ (t : FastTrack). t.scale ≤ 4096) (sym (slot_else i ne)) (state.scaled i li));
  }

module _ (slot : ℕ) (x : FastState) (low : 1 ≤ slot) (lt : slot < slots) where
  abbrev z : FastState
  z = detached slot x

  pub detached_here : carries z slot ≡ false
  detached_here = ap (λ b. not b && (bit_at (bit_and x.mask (2 ^ 32 - 1 - 2 ^ slot)) slot == 1)) (ne_eqb slot 0 (λ e. omega arith))
      ∙ ne_eqb (bit_at (bit_and x.mask (2 ^ 32 - 1 - 2 ^ slot)) slot) 1 (λ e. let c = clear_same x.mask slot (omega arith) in omega arith)

  pub detached_else : (i : ℕ) → i < slots → i ≢ slot → carries z i ≡ carries x i
  detached_else i li ne = ap (λ b. not (i == 0) && (b == 1)) (clear_other x.mask slot i (omega arith) (omega arith) ne)

  pub detached_state : IsState x → IsState z
  detached_state state = record {
    whole = state.whole;
    submix = clear_other x.mask slot 0 (omega arith) (omega arith) (λ e. omega arith) ∙ state.submix;
    scaled = state.scaled;
  }
