-- The state that an observer lends is its current one.
use Rattle.std.proofs.Common.{◌≡◌, ◌<◌, MatchOption, option_copied, Bor, Option, Some, None, sym, ap, ◌∙◌}
use Rattle.af_fast.proofs.Common.{FastState, InOrder, Observes, ServerState, StreamNames, no_state, polled_states, state_of}
use Rattle.af_fast.specs.Fits.{stream_fits}

-- before the first state is pushed no state is current
pub none_now : (o : Observes ServerState StreamNames) → InOrder stream_fits o → o.past.number ≡ 0 → o.current ≡ None
none_now o order none = sym (order.told.current no_state) ∙ ap (state_of (polled_states no_state o.past.events)) none

-- the copy of what the observer lends is its current state
pub current_copied : (o : Observes ServerState StreamNames) (lent : Option (Bor FastState)) (copied : Option FastState) → (o.past.number ≡ 0 → o.current ≡ None)
    → MatchOption lent (o.past.number ≡ 0) (λ s. (0 < o.past.number) × (s.now ≡ o.past.state) × (o.current ≡ Some s.now)) → copied ≡ option_copied lent → copied ≡ o.current
current_copied o None copied none lends same = same ∙ sym (none lends)
current_copied o (Some s) copied none lends same = same ∙ sym lends.2
