-- The steps of a cycle by the state that it used.
use Rattle.std.proofs.Common.{◌≡◌, ℕ, zero, suc, ◌+◌, ◌*◌, ◌≤◌, if◌then◌else◌, Bool, false, None, refl, sym, ap, subst, ◌∙◌, arith}
use Rattle.af_session.proofs.Common.{CarriesNone, FastState, IsInOrder, MixerState, most_steps, polled_states, slots, state_of, tracks_used}
use Rattle.af_model.specs.StateQueue.{carries}
use Rattle.af_model.specs.Tracks.{tracks_below, tracks_of}
use Rattle.af_stateq.specs.Shelved.{no_state}

-- one for a slot that has a track
abbrev one_for : Bool → ℕ
one_for b = if b then 1 else 0

-- a state whose slots carry nothing has no track
none_below : (x : FastState) (n : ℕ) → n ≤ slots → CarriesNone x → tracks_below x n ≡ 0
none_below x zero few none = refl
none_below x (suc n) few none =
    let here : one_for (carries x n) ≡ one_for false = ap one_for (none n (omega arith)) in
    omega (arith, here, none_below x n (omega arith) none)

no_tracks : (x : FastState) → CarriesNone x → tracks_of x ≡ 0
unfolding tracks_of
no_tracks x none = none_below x slots (omega arith) none

-- the state that a mixer has is the one that it polled last; if it polled none, it has no track
pub used_tracks : (m : MixerState) → IsInOrder m → tracks_of m.observer.past.state ≡ tracks_used m.observer.current
used_tracks m order = by_number m.observer.past.number refl
  where
    by_number : (n : ℕ) → m.observer.past.number ≡ n → tracks_of m.observer.past.state ≡ tracks_used m.observer.current
    by_number zero is =
        let none : m.observer.current ≡ None = sym (order.observer.told.current no_state) ∙ ap (state_of (polled_states no_state m.observer.past.events)) is in
        no_tracks m.observer.past.state (order.begins is) ∙ sym (ap tracks_used none)
    by_number (suc n) is = sym (ap tracks_used (order.observer.told.state (omega (arith, is))))

-- a mix after a poll of two steps takes no more than its cycle may
pub mixed_few : (m : MixerState) (before after : ℕ) → IsInOrder m → before ≤ 2 → after ≤ before + (tracks_of m.observer.past.state + 1) * m.frames + 7 * tracks_of m.observer.past.state + 4 → after ≤ most_steps m.frames m.observer.current
mixed_few m before after order poll few = subst (λ (n : ℕ). after ≤ (n + 1) * m.frames + 7 * n + 6) (used_tracks m order) (omega (arith, few, poll))
