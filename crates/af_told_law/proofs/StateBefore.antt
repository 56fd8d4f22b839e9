-- The state before the last one that a mutator's list tells is the one before the last that it pushed.
use Rattle.std.proofs.Common.{◌≡◌, ℕ, ◌+◌, ◌-◌, ◌<◌, fold, unwrap_or, List, [], ◌∷◌, ◌++◌, append_assoc, append-nil, length, length-append, Option, refl, sym, ap, subst, ◌∙◌, arith}
use Rattle.af_told_law.proofs.Common.{FastState, MutatorEvent, MutatorPoint, ServerState, initial, mutated, mutator_next, mutator_start, pushed_states, same_before, state_at, state_next}
use Rattle.af_model.specs.declared.states.MutatorEvent.TheVariants as mutator

module _ (frames : ℕ) where
  -- a point of the mutator has the last of these states, and the one before it
  record Has (p : MutatorPoint ServerState) (states : List FastState) : Type 0 where
    last : p.last ≡ state_at frames states (length states)
    before : 0 < length states → p.before ≡ state_at frames states (length states - 1)

  has_push : (p : MutatorPoint ServerState) (states : List FastState) (k : ℕ) (x : FastState) (items : List (Option ServerState)) → Has p states → Has (mutator_next p (mutator.Push k x items)) (states ++ x ∷ [])
  has_push p states k x items h =
      let long : length (states ++ x ∷ []) ≡ length states + 1 = length-append states (x ∷ []) in
      let one : length (states ++ x ∷ []) - 1 ≡ length states = omega (arith, long) in
      record {
        last = sym (ap (state_at frames (states ++ x ∷ [])) long ∙ ap (λ (o : Option FastState). unwrap_or o (initial frames)) (state_next states x));
        before = (λ some. h.last ∙ sym (ap (state_at frames (states ++ x ∷ [])) one ∙ ap (λ (o : Option FastState). unwrap_or o (initial frames)) (same_before states x (length states) (omega arith))));
      }

  has_after : (p : MutatorPoint ServerState) (states : List FastState) (ms : List (MutatorEvent ServerState)) → Has p states → Has (fold mutator_next p ms) (states ++ pushed_states ms)
  has_after p states [] h = subst (Has p) (sym (append-nil states)) h
  has_after p states (mutator.Push k x items ∷ ms) h =
      subst (Has (fold mutator_next (mutator_next p (mutator.Push k x items)) ms)) (append_assoc states (x ∷ []) (pushed_states ms)) (has_after (mutator_next p (mutator.Push k x items)) (states ++ x ∷ []) ms (has_push p states k x items h))
  has_after p states (mutator.SawAck a items ∷ ms) h = has_after (mutator_next p (mutator.SawAck a items)) states ms (record { last = h.last; before = h.before })
  has_after p states (mutator.Learn c ∷ ms) h = has_after (mutator_next p (mutator.Learn c)) states ms (record { last = h.last; before = h.before })

  pub before_told : (ms : List (MutatorEvent ServerState)) → 0 < length (pushed_states ms) → (mutated (initial frames) ms).before ≡ state_at frames (pushed_states ms) (length (pushed_states ms) - 1)
  before_told ms some = (has_after (mutator_start (initial frames)) [] ms (record { last = refl; before = (λ none. absurd (omega (arith, none))) })).before some
