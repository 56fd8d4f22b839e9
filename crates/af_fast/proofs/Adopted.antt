-- A mixer that adopted a state is in order.
use Rattle.std.proofs.Common.{◌≡◌, ℕ, ◌+◌, Bool, true, false, true≢false, List, [], ◌∷◌, ◌++◌, length, Option, Some, None, refl, sym, ap, subst, ◌∙◌, arith}
use Rattle.af_fast.proofs.Common.{Ack, CycleEntry, FastState, InOrder, ObserverEvent, Observes, SawNext, ServerState, StreamNames, UseUpTo-more, cold_done, cold_done-before, last_used, no_state, polled_states, same_before, state_of}
use Rattle.af_model.specs.declared.states.ObserverEvent.TheVariants as observer
use Rattle.af_model.specs.declared.plain_calls.Poll.{Poll}
use Rattle.af_model.specs.declared.plain_calls.Poll.TheVariants.{Nothing, Same, New}
use Rattle.af_stateq.specs.Answers.{WasPolled}
use Rattle.af_fast.specs.Fits.{stream_fits}
use Rattle.af_fast.specs.Mixer.{MixerState, UsesStates, KeepsEntries, CarriesNone, IsInOrderAfter, adopted_states, all_entries, is_over}

-- a look that found nothing new polls no state
polled-same : (y : FastState) (es : List (ObserverEvent ServerState)) (k : ℕ) → polled_states y (es ++ SawNext k None [] ∷ []) ≡ polled_states y es
polled-same y [] k = refl
polled-same y (SawNext n (Some x) items ∷ es) k = polled-same x es k
polled-same y (SawNext n None items ∷ es) k = polled-same y es k
polled-same y (Ack n items ∷ es) k = ap (λ (l : List FastState). y ∷ l) (polled-same y es k)
polled-same y (observer.Learn c ∷ es) k = polled-same y es k

-- a look that took a state, which was acknowledged, polls one state more
polled-new : (y : FastState) (es : List (ObserverEvent ServerState)) (k n : ℕ) (x : FastState) (came back : List (Option ServerState))
    → polled_states y ((es ++ SawNext k (Some x) came ∷ []) ++ Ack n back ∷ []) ≡ polled_states y es ++ x ∷ []
polled-new y [] k n x came back = refl
polled-new y (SawNext m (Some z) items ∷ es) k n x came back = polled-new z es k n x came back
polled-new y (SawNext m None items ∷ es) k n x came back = polled-new y es k n x came back
polled-new y (Ack m items ∷ es) k n x came back = ap (λ (l : List FastState). y ∷ l) (polled-new y es k n x came back)
polled-new y (observer.Learn c ∷ es) k n x came back = polled-new y es k n x came back

-- the mixer uses its states so with another answer to whether a state waits for its mix
pub with_turn : {n : ℕ} {es : List CycleEntry} {turn over : Bool} (turn' : Bool) → (turn' ≡ false → n ≡ last_used es) → UsesStates n es turn over → UsesStates n es turn' over
with_turn turn' still k = record { used = k.used; low = k.low; high = k.high; still = still; ended = k.ended; few = k.few }

module _ (earlier : List CycleEntry) where
  abbrev all : MixerState → List CycleEntry
  all = all_entries earlier

  -- a mixer is in order if its observer has the same states
  same_states : (m : MixerState) (o : Observes ServerState StreamNames) → IsInOrderAfter earlier m → InOrder stream_fits o → o.past.number ≡ m.observer.past.number → o.past.state ≡ m.observer.past.state
      → polled_states no_state o.past.events ≡ adopted_states m → IsInOrderAfter earlier (record m { observer = o; adopted = true })
  same_states m o k order number state states = record {
    observer = order;
    begins = subst (λ (x : ℕ × FastState). x.0 ≡ 0 → CarriesNone x.1) (λ i. (sym number i, sym state i)) k.begins;
    room = k.room;
    uses = with_turn true (λ no. absurd (true≢false no)) (subst (λ n. UsesStates n (all m) m.adopted (is_over m)) (sym number) k.uses);
    keeps = subst (λ (xs : List FastState). KeepsEntries xs (all m) m.exited m.cold m.last) (sym states) k.keeps;
    reports = k.reports;
    forgotten = k.forgotten;
  }

  -- a mixer is in order if its observer has one state more
  next_state : (m : MixerState) (o : Observes ServerState StreamNames) (x : FastState) → IsInOrderAfter earlier m → is_over m ≡ false → m.adopted ≡ false → InOrder stream_fits o → o.past.number ≡ m.observer.past.number + 1
      → polled_states no_state o.past.events ≡ adopted_states m ++ x ∷ [] → IsInOrderAfter earlier (record m { observer = o; adopted = true })
  next_state m o x k goes turn order number states =
      let xs : List FastState = adopted_states m in
      let u = k.uses in
      let still = u.still turn in
      let long : length xs ≡ last_used (all m) = k.observer.told.counted no_state ∙ still in
      record {
        observer = order;
        begins = (λ none. absurd (omega (arith, number, none)));
        room = k.room;
        uses = record {
          used = u.used;
          low = omega (arith, still, number);
          high = omega (arith, still, number);
          still = (λ no. absurd (true≢false no));
          ended = (λ yes'. absurd (true≢false (sym yes' ∙ goes)));
          few = u.few;
        };
        keeps = record {
          exited_is = k.keeps.exited_is;
          cold_is = k.keeps.cold_is ∙ sym (cold_done-before xs x (all m) (UseUpTo-more (last_used (all m)) (length xs) (all m) (omega (arith, long)) u.used)) ∙ ap (λ (ys : List FastState). cold_done ys (all m)) (sym states);
          last_is = k.keeps.last_is ∙ sym (same_before xs x (last_used (all m)) (omega (arith, long))) ∙ ap (λ (ys : List FastState). state_of ys (last_used (all m))) (sym states);
        };
        reports = k.reports;
        forgotten = k.forgotten;
      }

  -- a mixer is in order after a poll, whatever the poll found
  pub polled_order : (m : MixerState) (o : Observes ServerState StreamNames) (poll : Poll) (s s' : ℕ) → IsInOrderAfter earlier m → is_over m ≡ false → m.adopted ≡ false → InOrder stream_fits o → WasPolled m.observer poll o s s'
      → IsInOrderAfter earlier (record m { observer = o; adopted = true })
  polled_order m o Nothing s s' k goes turn order (none, is, stepped) =
      same_states m o k order (ap (λ (y : Observes ServerState StreamNames). y.past.number) is) (ap (λ (y : Observes ServerState StreamNames). y.past.state) is)
      (ap (λ (y : Observes ServerState StreamNames). polled_states no_state y.past.events) is ∙ polled-same no_state m.observer.past.events m.observer.past.number)
  polled_order m o Same s s' k goes turn order (some, is, stepped) =
      same_states m o k order (ap (λ (y : Observes ServerState StreamNames). y.past.number) is) (ap (λ (y : Observes ServerState StreamNames). y.past.state) is)
      (ap (λ (y : Observes ServerState StreamNames). polled_states no_state y.past.events) is ∙ polled-same no_state m.observer.past.events m.observer.past.number)
  polled_order m o (New number) s s' k goes turn order (next, (x, took), stepped) =
      next_state m o x k goes turn order (ap (λ (y : Observes ServerState StreamNames). y.past.number) took.2)
      (ap (λ (y : Observes ServerState StreamNames). polled_states no_state y.past.events) took.2 ∙ polled-new no_state m.observer.past.events (m.observer.past.number + 1) (m.observer.past.number + 1) x took.0 took.1)

  -- a mixer that is over is in order, with nothing mixed
  pub rest_order : (m : MixerState) → IsInOrderAfter earlier m → is_over m ≡ true → IsInOrderAfter earlier (record m { adopted = false })
  rest_order m k over = record { observer = k.observer; begins = k.begins; room = k.room; uses = with_turn false (λ _. k.uses.ended over) k.uses; keeps = k.keeps; reports = k.reports; forgotten = k.forgotten }
