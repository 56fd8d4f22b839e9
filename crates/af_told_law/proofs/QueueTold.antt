-- What the mutator's list tells after a turn: the items that went with the last push, and whether that was seen acknowledged.
use Rattle.std.proofs.Common.{◌≡◌, ℕ, ◌-◌, ◌==◌, Bool, true, false, true≢false, if◌then◌else◌, fold, refl, sym, ap, ◌∙◌, List, [], ◌∷◌, ◌++◌, Option}
use Rattle.af_told_law.proofs.Common.{Busy, Clean, FastState, MutatorEvent, MutatorPoint, NormalKept, Push, Pushed, ServerState, is_pushed, mutated, mutator_next, mutator_start, push_list}
use Rattle.std.proofs.lemmas.List.Sums.{fold-append}
use Rattle.af_model.specs.declared.states.MutatorEvent.TheVariants as mutator
use Rattle.af_told_law.proofs.PushPlaces.{is_busy}

module _ (first : FastState) (events : List (MutatorEvent ServerState)) (n : ℕ) (back again sent : List (Option ServerState)) (m : NormalKept) where
  pub told_then : (push : Push) → mutated first (events ++ mutator.SawAck n back ∷ push_list m push again sent) ≡ fold mutator_next (mutator_next (mutated first events) (mutator.SawAck n back)) (push_list m push again sent)
  told_then push = fold-append mutator_next (mutator_start first) events (mutator.SawAck n back ∷ push_list m push again sent)

  -- a push tells its items, and nothing is clear after it
  shown_then : (push : Push) → is_pushed push ≡ true → ((fold mutator_next (mutator_next (mutated first events) (mutator.SawAck n back)) (push_list m push again sent)).items ≡ sent)
      × ((fold mutator_next (mutator_next (mutated first events) (mutator.SawAck n back)) (push_list m push again sent)).clear ≡ false)
  shown_then (Pushed number) e = by_first (m.pushed == 0)
    where
      by_first : (b : Bool) → ((fold mutator_next (mutator_next (mutated first events) (mutator.SawAck n back)) ((if b then [] else mutator.SawAck m.pushed again ∷ []) ++ mutator.Push number m.draft sent ∷ [])).items ≡ sent)
          × ((fold mutator_next (mutator_next (mutated first events) (mutator.SawAck n back)) ((if b then [] else mutator.SawAck m.pushed again ∷ []) ++ mutator.Push number m.draft sent ∷ [])).clear ≡ false)
      by_first true = (refl, refl)
      by_first false = (refl, refl)
  shown_then Clean e = absurd (true≢false (sym e))
  shown_then (Busy seen expected) e = absurd (true≢false (sym e))

  pub shown_told : (push : Push) → is_pushed push ≡ true → ((mutated first (events ++ mutator.SawAck n back ∷ push_list m push again sent)).items ≡ sent) × ((mutated first (events ++ mutator.SawAck n back ∷ push_list m push again sent)).clear ≡ false)
  shown_told push e = let t = shown_then push e in
      (ap (λ (p : MutatorPoint ServerState). p.items) (told_then push) ∙ t.0, ap (λ (p : MutatorPoint ServerState). p.clear) (told_then push) ∙ t.1)

  -- if nothing was pushed, the items are those of the last push
  still_then : (push : Push) → is_pushed push ≡ false → (fold mutator_next (mutator_next (mutated first events) (mutator.SawAck n back)) (push_list m push again sent)).items ≡ (mutated first events).items
  still_then (Pushed number) e = absurd (true≢false e)
  still_then Clean e = refl
  still_then (Busy seen expected) e = refl

  pub still_told : (push : Push) → is_pushed push ≡ false → (mutated first (events ++ mutator.SawAck n back ∷ push_list m push again sent)).items ≡ (mutated first events).items
  still_told push e = ap (λ (p : MutatorPoint ServerState). p.items) (told_then push) ∙ still_then push e

  -- if nothing was pushed, the last push is clear if the look saw its number
  clear_then : (push : Push) (ack : Bool) → is_pushed push ≡ false → (n == (mutated first events).pushed) ≡ ack → (is_busy push ≡ true → (m.pushed - 1 == (mutated first events).pushed) ≡ ack)
      → (fold mutator_next (mutator_next (mutated first events) (mutator.SawAck n back)) (push_list m push again sent)).clear ≡ ack
  clear_then (Pushed number) ack e saw busy = absurd (true≢false e)
  clear_then Clean ack e saw busy = saw
  clear_then (Busy seen expected) ack e saw busy = busy refl

  pub clear_told : (push : Push) (ack : Bool) → is_pushed push ≡ false → (n == (mutated first events).pushed) ≡ ack → (is_busy push ≡ true → (m.pushed - 1 == (mutated first events).pushed) ≡ ack)
      → (mutated first (events ++ mutator.SawAck n back ∷ push_list m push again sent)).clear ≡ ack
  clear_told push ack e saw busy = ap (λ (p : MutatorPoint ServerState). p.clear) (told_then push) ∙ clear_then push ack e saw busy
