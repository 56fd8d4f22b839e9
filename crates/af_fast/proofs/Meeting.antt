-- A mixer whose ends met those of the other side, or one of whose proxies met its client, is in order.
use Rattle.std.proofs.Common.{◌≡◌, ℕ, suc, List, [], ◌∷◌, ◌++◌, length, Some, None, refl, sym, ap, subst, ◌∙◌}
use Rattle.af_fast.proofs.Common.{Ack, CycleEntry, FastState, ObserverEvent, Report, SawNext, ServerState, SlotReport, Store, WriterEvent, no_report, no_state, polled_states, stores}
use Rattle.af_fast.proofs.Basics.{last_of-learn}
use Rattle.af_model.specs.declared.newest.WriterEvent.TheVariants as writes
use Rattle.af_model.specs.declared.states.ObserverEvent.TheVariants as observes
use Rattle.af_stateq.proofs.Told.{order_learns}
use Rattle.af_fast.specs.Fits.{stream_fits}
use Rattle.af_fast.specs.Meets.{Others, mixer_met}
use Rattle.af_fast.specs.Mixer.{MixerState, KeepsEntries, Reported, IsInOrderAfter, all_entries}

stores-learn : (ws : List (WriterEvent Report)) (k : ℕ) → stores (ws ++ writes.Learn k ∷ []) ≡ stores ws
stores-learn [] k = refl
stores-learn (Store y ∷ ws) k = ap (λ n. suc n) (stores-learn ws k)
stores-learn (writes.Learn c ∷ ws) k = stores-learn ws k

reported_met : (entries k : ℕ) (ws : List (WriterEvent Report)) (reports : List SlotReport) → Reported entries ws reports → Reported entries (ws ++ writes.Learn k ∷ []) reports
reported_met entries k ws reports r =
    let last = last_of-learn no_report ws k in
    record { many = stores-learn ws k ∙ r.many; number = ap (λ (x : Report). x.cycle) last ∙ r.number; slots_are = ap (λ (x : Report). x.slots) last ∙ r.slots_are; whole = r.whole; few = r.few }

-- what an observer learns is no state
polled-learn : (y : FastState) (es : List (ObserverEvent ServerState)) (k : ℕ) → polled_states y (es ++ observes.Learn k ∷ []) ≡ polled_states y es
polled-learn y [] k = refl
polled-learn y (SawNext n (Some x) items ∷ es) k = polled-learn x es k
polled-learn y (SawNext n None items ∷ es) k = polled-learn y es k
polled-learn y (Ack n items ∷ es) k = ap (λ (l : List FastState). y ∷ l) (polled-learn y es k)
polled-learn y (observes.Learn c ∷ es) k = polled-learn y es k

-- a mixer is in order after all its ends met
pub met_order : {earlier : List CycleEntry} (m : MixerState) (o : Others) → IsInOrderAfter earlier m → IsInOrderAfter earlier (mixer_met m o)
met_order {earlier} m o k =
    let count : ℕ = length o.mutator.past.events in
    record {
      observer = order_learns stream_fits m.observer (mixer_met m o).observer count k.observer refl;
      begins = k.begins;
      room = k.room;
      uses = k.uses;
      keeps = subst (λ (xs : List FastState). KeepsEntries xs (all_entries earlier m) m.exited m.cold m.last) (sym (polled-learn no_state m.observer.past.events count)) k.keeps;
      reports = reported_met (length (all_entries earlier m)) (length o.reader.events) m.writer.events m.reports k.reports;
      forgotten = k.forgotten;
    }
