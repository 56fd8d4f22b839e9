-- A call leaves an attached item with the mutator, unless it is a push.
use Rattle.std.proofs.Common.{◌≡◌, ◌⊎◌, inl, inr, ℕ, ◌+◌, ◌<◌, ◌&&◌, not, Bool, true, false, List, Option, Some, None, is_some, slice_set, sym, ap, ◌∙◌, arith}
use Rattle.af_stateq.proofs.Common.{Busy, Clean, Pushed, QueueAnswer, QueueCall, both, carries, get_or-set_other, get_or-set_same, is_allowed, not_both, not_true, slots}
use mathlib.Core.Logic.{dite}
use native.Mathlib.Decide.{ℕ_discrete}
use Rattle.af_base.specs.declared.state.Push.{Push as PushAnswer}
use Rattle.af_model.specs.declared.plain_calls.QueueCall.TheVariants as call
use Rattle.af_stateq.specs.Mutates.{Mutates, InDraft, at, is_out}
use Rattle.af_stateq.specs.Observes.{Observes}
use Rattle.af_stateq.specs.Answers.{shows, WasPushed, WasAcked}
use Rattle.af_stateq.specs.OneHand.{ready_of, Made}
use Rattle.af_stateq.specs.Attached.{IsAttached, IsCarried, StaysUntilPushed}
use Rattle.af_stateq.proofs.Slots.{on_shelf}

module _ {P K : Type 0} (fits : K → ℕ → P → Type 0) (m : Mutates P K) (o : Observes P K) (d : InDraft fits m) (i : ℕ) (p : P) (lt : i < slots) (here : IsAttached m i p) where
  abbrev Remains : Mutates P K → Type 0
  Remains m' = IsAttached m' i p ⊎ ((at m'.returned i ≡ Some p) ⊎ IsCarried m' i p)

  -- the pending items are the same
  stays : (m' : Mutates P K) → m'.pending ≡ m.pending → Remains m'
  stays m' e = inl (ap (λ (l : List (Option P)). at l i) e ∙ here)

  -- a push carries them
  shown : (w m' : Mutates P K) → w.pending ≡ m.pending → m' ≡ shows w → Remains m'
  shown w m' e is = inr (inr (w.past.events, w.past.number + 1, w.draft, w.pending, ap (λ (z : Mutates P K). z.past.events) is, ap (λ (l : List (Option P)). at l i) e ∙ here))

  pushed : (answer : PushAnswer) (s s' : ℕ) (m' : Mutates P K) → WasPushed m answer m' s s' → Remains m'
  pushed Clean s s' m' w = stays m' (ap (λ (z : Mutates P K). z.pending) w.1)
  pushed (Busy seen expected) s s' m' w = stays m' (ap (λ (z : Mutates P K). z.pending) w.3.2.2)
  pushed (Pushed number) s s' m' w = dite (ℕ_discrete m.past.number 0)
      (λ z. shown m m' (λ _. m.pending) (w.2 z).0)
      (λ nz. let t = w.3 (omega arith) in shown t.0 m' (ap (λ (z : Mutates P K). z.pending) t.1.1) t.2)

  acked : (b : Bool) (m' : Mutates P K) → WasAcked m b m' → Remains m'
  acked true m' w = stays m' (ap (λ (z : Mutates P K). z.pending) w.1)
  acked false m' w = stays m' (ap (λ (z : Mutates P K). z.pending) w.1.2)

  -- the slot of an attach is free, so that no item is pending there
  attached : (slot : ℕ) (item : P) (m' : Mutates P K) → slot < slots → is_out m.out slot ≡ false → m'.pending ≡ slice_set m.pending slot (Some item) → Remains m'
  attached slot item m' low free e = dite (ℕ_discrete i slot)
      (λ same. let s = d.each slot low in let empty : is_some (at m.pending slot) ≡ false = s.pends ∙ ap (λ b. b && not (carries m.past.last slot)) (s.clean free).0 in
      absurd (not_both (is_some (at m.pending slot)) (ap (λ j. is_some (at m.pending j)) (sym same) ∙ ap is_some here) empty))
      (λ ne. inl (ap (λ (l : List (Option P)). at l i) e ∙ get_or-set_other m.pending slot i (Some item) None ne ∙ here))

  detached : (slot : ℕ) (m' : Mutates P K) → m'.pending ≡ slice_set m.pending slot None → m'.returned ≡ slice_set m.returned slot (at m.pending slot) → Remains m'
  detached slot m' e f = dite (ℕ_discrete i slot)
      (λ same. inr (inl (ap (λ (l : List (Option P)). at l i) f ∙ ap (λ j. at (slice_set m.returned j (at m.pending j)) i) (sym same) ∙ get_or-set_same m.returned i (at m.pending i) None (let l = d.lengths.1 in omega arith) ∙ here)))
      (λ ne. inl (ap (λ (l : List (Option P)). at l i) e ∙ get_or-set_other m.pending slot i None None ne ∙ here))

  stays_by : (c : QueueCall P) (a : QueueAnswer P) (m' : Mutates P K) (o' : Observes P K) → is_allowed (ready_of m o) c ≡ true → Made c m o a m' o' → Remains m'
  stays_by call.Begin a m' o' on w = stays m' (ap (λ (z : Mutates P K). z.pending) w.1)
  stays_by (call.SetCommand c) a m' o' on w = stays m' (ap (λ (z : Mutates P K). z.pending) w.1)
  stays_by (call.Attach slot mono scale track item) a m' o' on w =
      let free = both _ _ (both _ _ (both _ _ (both _ _ on).0).0).0 in
      attached slot item m' (on_shelf slot (both _ _ free.0).1).1 (not_true _ free.1) (ap (λ (z : Mutates P K). z.pending) w.1)
  stays_by (call.Detach slot) a m' o' on w = detached slot m' (ap (λ (z : Mutates P K). z.pending) w.1) (ap (λ (z : Mutates P K). z.returned) w.1)
  stays_by (call.End did_modify) a m' o' on w = stays m' (ap (λ (z : Mutates P K). z.pending) w.1)
  stays_by call.Push a m' o' on w = pushed w.0 w.1 w.2 m' w.4
  stays_by call.Acked a m' o' on w = acked w.0 m' w.2
  stays_by (call.TakeBack slot) a m' o' on w = stays m' (ap (λ (z : Mutates P K). z.pending) w.1)
  stays_by call.Poll a m' o' on w = stays m' (ap (λ (z : Mutates P K). z.pending) w.5)

pub stays_until_pushed : {P K : Type 0} (fits : K → ℕ → P → Type 0) (m : Mutates P K) (o : Observes P K) → StaysUntilPushed fits m o
stays_until_pushed fits m o c a m' o' i p d on w lt here = stays_by fits m o d i p lt here c a m' o' on w
