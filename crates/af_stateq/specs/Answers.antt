-- What each answer of a push and of a poll says.
use Rattle.std.specs.Prelude.{◌≡◌, ◌≢◌, ℕ, ◌+◌, ◌-◌, ◌<◌, Bool, true, false, List, [], ◌++◌, Option, Some, replicate}
use Rattle.af_base.specs.declared.state.FastState.{FastState}
use Rattle.af_base.specs.declared.state.Push.{Push}
use Rattle.af_base.specs.declared.state.Push.TheVariants.{Pushed, Clean, Busy}
use Rattle.af_model.specs.declared.states.MutatorEvent.TheVariants.{SawAck}
use Rattle.af_model.specs.StateQueue.{slots, AreOf}
use Rattle.af_model.specs.declared.plain_calls.Poll.{Poll}
use Rattle.af_model.specs.declared.plain_calls.Poll.TheVariants.{Nothing, Same, New}
use Rattle.af_stateq.specs.Shelved.{word, nothing}
use Rattle.af_stateq.specs.Ends.{saw, pushes, looked, took, acknowledged}
use Rattle.af_stateq.specs.Mutates.{Mutates, IsJoined}
use Rattle.af_stateq.specs.Observes.{Observes, IsSettled}

module _ {P K : Type 0} where
  -- what came into hand: nothing if the last state was seen acknowledged before, and else the items of the slots that the last push took off the states
  abbrev pub Brings : Mutates P K → List (Option P) → Type 0
  Brings m items = (m.past.clear ≡ true → items ≡ []) × (m.past.clear ≡ false → AreOf m.past.before m.past.last items)

  -- the last state was seen acknowledged, and the detached items came into hand
  abbrev pub SeesIt : Mutates P K → Mutates P K → Type 0
  SeesIt m m' = (items : List (Option P)) × (m' ≡ record m { past = saw m.past.number items m.past; returned = m'.returned }) × IsJoined items m.returned m'.returned × Brings m items

  -- the last state is not acknowledged yet, and wasn't before
  abbrev pub SeesOlder : Mutates P K → Mutates P K → ℕ → Type 0
  SeesOlder m m' a = (0 < m.past.number) × (a + 1 ≡ m.past.number) × (m' ≡ record m { past = saw a [] m.past }) × (m.past.clear ≡ false) × (m'.past.clear ≡ false)

  -- the draft is shown as the next state, with the pending items
  abbrev pub shows : Mutates P K → Mutates P K
  shows m = record m { past = pushes m.draft m.pending m.past; dirty = false; pending = nothing }

  -- a push: Clean if nothing was to be pushed, Busy if the last state isn't seen acknowledged, else the draft is the next state
  abbrev pub WasPushed : Mutates P K → Push → Mutates P K → ℕ → ℕ → Type 0
  WasPushed m Clean m' s s' = (m.dirty ≡ false) × (m' ≡ m) × (s' ≡ s)
  WasPushed m (Busy seen expected) m' s s' = (m.dirty ≡ true) × (expected ≡ word m.past.number) × (seen ≢ expected) × ((a : ℕ) × (seen ≡ word a) × SeesOlder m m' a) × (s' ≡ s + 1)
  WasPushed m (Pushed number) m' s s' = (m.dirty ≡ true) × (number ≡ m.past.number + 1)
      × (m.past.number ≡ 0 → (m' ≡ shows m) × (s' ≡ s + 1))
      × (0 < m.past.number → (w : Mutates P K) × SeesIt m w × (m' ≡ shows w) × (s' ≡ s + 2))

  -- a look at the acknowledgement: true exactly if no push stands or the last one is acknowledged
  abbrev pub WasAcked : Mutates P K → Bool → Mutates P K → Type 0
  WasAcked m true m' = SeesIt m m'
  WasAcked m false m' = (a : ℕ) × SeesOlder m m' a

  -- what the edits made stays while the mutator looks and pushes
  abbrev pub SameDraft : Mutates P K → Mutates P K → Type 0
  SameDraft m m' = (m'.past.queue ≡ m.past.queue) × (m'.past.key ≡ m.past.key) × (m'.past.first ≡ m.past.first) × (m'.draft ≡ m.draft) × (m'.editing ≡ m.editing) × (m'.out ≡ m.out)

  -- the mutator after n looks that found the last state not acknowledged
  abbrev pub waited : ℕ → Mutates P K → Mutates P K
  waited n m = record m { past = record m.past { events = m.past.events ++ replicate n (SawAck (m.past.number - 1) []) } }

  -- a push that is never Busy: Clean if nothing was to be pushed, else some looks that found the last state not acknowledged, and then the push
  abbrev pub UntilPushed : Mutates P K → Push → Mutates P K → ℕ → ℕ → Type 0
  UntilPushed m Clean m' s s' = (m.dirty ≡ false) × (m' ≡ m) × (s' ≡ s)
  UntilPushed m (Busy seen expected) m' s s' = ⊥
  UntilPushed m (Pushed number) m' s s' = (n : ℕ) × WasPushed (waited n m) (Pushed number) m' (s + n) s'

  -- a push that is never Busy, and then some looks that found its state not acknowledged, and one that saw it acknowledged
  abbrev pub UntilAcked : Mutates P K → Push → Mutates P K → ℕ → ℕ → Type 0
  UntilAcked m answer m' s s' = (w : Mutates P K) × (t : ℕ) × UntilPushed m answer w s t × ((n : ℕ) × SeesIt (waited n w) m' × (s' ≡ t + n + 1))

  -- a look that found nothing new
  abbrev pub sees_same : Observes P K → Observes P K
  sees_same o = record o { past = looked o.past }

  -- the state x was taken with the items of the slots that it carries and the state before doesn't, and acknowledged with those of the slots that it doesn't carry any more
  abbrev pub TakesIt : Observes P K → FastState → Observes P K → Type 0
  TakesIt o x o' = (came : List (Option P)) × (back : List (Option P)) × (o' ≡ record { past = acknowledged back (took x came o.past); current = Some x; previous = o.current; items = o'.items })
      × ((i : ℕ) → i < slots → IsSettled x o.items came o'.items back i) × AreOf x o.past.state came × AreOf o.past.state x back

  -- a poll: Nothing if nothing was pushed, Same if the last push is current, else the next state is current
  abbrev pub WasPolled : Observes P K → Poll → Observes P K → ℕ → ℕ → Type 0
  WasPolled o Nothing o' s s' = (o.past.number ≡ 0) × (o' ≡ sees_same o) × (s' ≡ s + 1)
  WasPolled o Same o' s s' = (0 < o.past.number) × (o' ≡ sees_same o) × (s' ≡ s + 1)
  WasPolled o (New number) o' s s' = (number ≡ o.past.number + 1) × ((x : FastState) × TakesIt o x o') × (s' ≡ s + 2)
