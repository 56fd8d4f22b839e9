-- What holds of the first state, of a new mutator and of a new observer.
use Rattle.std.proofs.Common.{◌≡◌, ℕ, zero, suc, ◌-◌, ◌<◌, ◌≤◌, ◌==◌, ◌&&◌, not, true, false, true≢false, Bool, List, [], Option, Some, None, is_some, replicate, refl, ap, sym, ◌∙◌, subst, arith, ne_eqb}
use Rattle.af_stateq.proofs.Common.{FastState, FastTrack, IsState, ObserverEvent, bit_at, carries, get_or-replicate, initial, length-replicate, no_fast_track, slot_of, slots}
use Rattle.std.proofs.lemmas.Nat.Bits.{bit_at-suc, bit_at-zero}
use Rattle.af_stateq.specs.Shelved.{nothing}
use Rattle.af_stateq.specs.Ends.{Pushes, Polls}
use Rattle.af_stateq.specs.Mutates.{Mutates, at, InSlot, InDraft}
use Rattle.af_stateq.specs.Observes.{InOrder, AreTold}
use Rattle.af_stateq.proofs.Told.{told_start}

module _ (frames : ℕ) where
  pub initial_none : (i : ℕ) → carries (initial frames) i ≡ false
  initial_none zero = refl
  initial_none (suc i) = ap (λ (b : Bool). not b && (bit_at 1 (suc i) == 1)) (ne_eqb (suc i) 0 (λ e. omega arith)) ∙ ap (λ (n : ℕ). n == 1) (bit_at-suc 1 i ∙ bit_at-zero i)

  scaled : (i : ℕ) → i < slots → (slot_of (initial frames) i).scale ≤ 4096
  scaled zero lt = omega arith
  scaled (suc i) lt = let e : (slot_of (initial frames) (suc i)).scale ≡ 0 = ap (λ (t : FastTrack). t.scale) (get_or-replicate (slots - 1) i no_fast_track no_fast_track (omega arith)) in omega arith

  pub initial_state : IsState (initial frames)
  initial_state = record { whole = refl; submix = refl; scaled = scaled }

  module _ {P K : Type 0} (fits : K → ℕ → P → Type 0) where
    no_item : (i : ℕ) (lt : i < slots) (p : P) → at nothing i ≡ Some p → ⊥
    no_item i lt p is = true≢false (sym (ap is_some (sym (get_or-replicate slots i None None lt) ∙ is)))

    empty_slot : (t tb : FastTrack) (b : Bool) → InSlot {P = P} true false false b t t tb None None false
    empty_slot t tb b = record {
      pends = refl;
      stays = λ _. refl;
      comes = λ e. absurd (true≢false e);
      rests = λ e. absurd (true≢false (sym e));
      clean = λ _. (refl, refl, refl, λ e. absurd (true≢false e));
      found = λ e. absurd (true≢false (sym e));
    }

    pub new_draft : (past : Pushes P K) → past.last ≡ initial frames → past.clear ≡ true → (dirty editing edited : Bool)
        → InDraft fits record { past = past; draft = initial frames; dirty = dirty; editing = editing; edited = edited; pending = nothing; returned = nothing; out = replicate slots false }
    new_draft past last clear dirty editing edited = record {
      state = initial_state;
      lengths = (length-replicate {A = Option P} slots None, length-replicate {A = Option P} slots None, length-replicate slots false);
      each = λ i lt. subst (λ (q : Bool × FastState × Bool × Bool × Option P × Bool). InSlot q.0 q.2 q.3 (carries past.before i) (slot_of (initial frames) i) (slot_of q.1 i) (slot_of past.before i) q.4 q.4 q.5)
          (λ j. (sym clear j, sym last j, sym (initial_none i) j, sym (ap (λ (x : FastState). carries x i) last ∙ initial_none i) j, sym (get_or-replicate {A = Option P} slots i None None lt) j, sym (get_or-replicate slots i false false lt) j))
          (empty_slot (slot_of (initial frames) i) (slot_of past.before i) (carries past.before i));
      fit_pending = λ key k i p lt is. absurd (no_item i lt p is);
      fit_returned = λ key k i p lt is. absurd (no_item i lt p is);
      begins = λ _. clear;
    }

    pub new_order : (past : Polls P K) → past.state ≡ initial frames → past.number ≡ 0 → past.events ≡ [] → InOrder fits record { past = past; current = None; previous = None; items = nothing }
    new_order past e none silent = record {
      told = subst (λ (q : List (ObserverEvent P) × ℕ). AreTold q.0 q.1 past.state None None) (λ j. (sym silent j, sym none j)) (told_start past.state);
      state = subst IsState (sym e) initial_state;
      whole = length-replicate {A = Option P} slots None;
      held = λ i lt. ap is_some (get_or-replicate {A = Option P} slots i None None lt) ∙ sym (ap (λ (x : FastState). carries x i) e ∙ initial_none i);
      fit = λ key k i p lt is. absurd (no_item i lt p is);
    }

-- an end that learns keeps what it has
pub past_keeps : {P K : Type 0} (fits : K → ℕ → P → Type 0) (m : Mutates P K) (d : InDraft fits m) (past : Pushes P K) → past ≡ record m.past { events = past.events } → InDraft fits record m { past = past }
past_keeps fits m d past e = subst (λ (q : Pushes _ _). InDraft fits record m { past = q }) (sym e)
    record { state = d.state; lengths = d.lengths; each = d.each; fit_pending = d.fit_pending; fit_returned = d.fit_returned; begins = d.begins }
