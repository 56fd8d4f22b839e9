-- The entries of a state that a turn pushes, in a run with that state and in one without it.
use Rattle.std.proofs.Common.{◌≡◌, ℕ, zero, suc, ◌+◌, ◌<◌, Bool, true, false, List, [], ◌∷◌, ◌++◌, length, Some, refl, sym, ap, ◌∙◌, length-append, arith}
use Rattle.af_audit.proofs.Common.{CarriesApart, CycleEntry, EntrySeen, FastState, LegalEntries, LegalEntry, Marks, NormalKept, Run, Session, SlotEntry, absent, carries, cycle_beside, cycle_entries, entry_slot, get_or-replicate, is_mixed, is_shown, last_used, no, polled_waits, slot_of, slots, state_for, state_known, state_next as state_of-newest, state_of, with_cycle, with_cycles, with_poll}
use Rattle.af_model.proofs.UsedStates.{last_used-push}
use Rattle.af_audit.proofs.Late.{Behind, behind_cycle}
use Rattle.af_audit.proofs.Measure.{Measure}

-- the first of these entries, if there is one, has a state of a later number
abbrev pub FirstLate : ℕ → List EntrySeen → Type 0
FirstLate n [] = Unit {0}
FirstLate n (e ∷ es) = n < e.entry.state

module _ (s : Session) (marks : Marks) (b : Run) (e : EntrySeen) (y : FastState) (legal : LegalEntry s marks (with_poll s e.entry.state b) e) (is : state_of b.states e.entry.state ≡ Some y) where
  -- what an entry shows is carried by its state
  pub shown_carried : (j : ℕ) → j < slots → 0 < j → is_shown (entry_slot e.entry j).seen ≡ true → carries y j ≡ true
  unfolding with_poll
  shown_carried j low some shown = by_mixed (is_mixed e.entry.cycle) refl
    where
      by_carried : (c : Bool) → carries y j ≡ c → is_mixed e.entry.cycle ≡ true → carries y j ≡ true
      by_carried true carried mixed = carried
      by_carried false none mixed = no (sym (ap (λ (slot : SlotEntry). is_shown slot.seen) ((legal.cycle.mixes y is mixed).others j some low none)) ∙ shown)

      by_mixed : (m : Bool) → is_mixed e.entry.cycle ≡ m → carries y j ≡ true
      by_mixed true mixed = by_carried (carries y j) refl mixed
      by_mixed false still =
          let none : entry_slot e.entry j ≡ absent = ap (λ (z : CycleEntry). entry_slot z j) (legal.cycle.still still) ∙ get_or-replicate slots j absent absent low in
          no (sym (ap (λ (slot : SlotEntry). is_shown slot.seen) none) ∙ shown)

pub carried_some : (x : FastState) (j : ℕ) → carries x j ≡ true → 0 < j
carried_some x zero h = no h
carried_some x (suc j) h = omega arith

module _ (measure : Measure) where
  module _ (s : Session) (marks : Marks) (n : ℕ) (xs : List FastState) (x y : FastState) (same : (j : ℕ) → j < slots → carries x j ≡ true → carries y j ≡ true → slot_of y j ≡ slot_of x j) (apart : CarriesApart y) where
    state_first : (a : Run) (k : ℕ) → a.states ≡ xs → length xs < k → a.normal.draft ≡ x → state_for s (with_poll s k a) k ≡ x
    state_first a k is far draft = polled_waits s a k (let l = ap (λ (zs : List FastState). length zs) is in omega (arith, l, far)) ∙ draft

    state_next : (b : Run) (k : ℕ) → state_of b.states k ≡ Some y → state_for s (with_poll s k b) k ≡ y
    unfolding with_poll
    state_next b k is = state_known s (with_poll s k b) k y is

    poll_states : (b : Run) (k : ℕ) → (with_poll s k b).states ≡ b.states
    unfolding with_poll
    poll_states b k = refl

    poll_entries : (b : Run) (k : ℕ) → (with_poll s k b).entries ≡ b.entries
    unfolding with_poll
    poll_entries b k = refl

    next_late : (b : Run) (e : EntrySeen) (es : List EntrySeen) → length xs < e.entry.state → LegalEntries s marks (with_cycle s b e) es → FirstLate (length xs) es
    next_late b e [] far legal = tt
    next_late b e (next ∷ es) far legal =
        let rises = legal.0.cycle.follows.0 in
        let used : last_used (with_poll s next.entry.state (with_cycle s b e)).entries ≡ e.entry.state = ap last_used (poll_entries (with_cycle s b e) next.entry.state ∙ cycle_entries s b e) ∙ last_used-push b.entries e.entry in
        omega (arith, rises, used, far)

    -- all entries keep the first run behind the second
    pub behind_cycles : (es : List EntrySeen) (a b : Run) → a.states ≡ xs → b.states ≡ xs ++ y ∷ [] → a.normal.draft ≡ x → FirstLate (length xs) es → LegalEntries s marks b es
        → Behind measure s n x y same apart a b → Behind measure s n x y same apart (with_cycles s es a) (with_cycles s es b)
    behind_cycles [] a b af bf draft first legal h = h
    behind_cycles (e ∷ es) a b af bf draft first legal h =
        let k : ℕ = e.entry.state in
        let long = length-append xs (y ∷ []) in
        let within = legal.0.cycle.pushed in
        let many = ap (λ (zs : List FastState). length zs) (poll_states b k ∙ bf) in
        let number : k ≡ length xs + 1 = omega (arith, within, many, long, first) in
        let is : state_of b.states k ≡ Some y = (λ i. state_of (bf i) (number i)) ∙ state_of-newest xs y in
        let a_next = cycle_beside s a e in
        let b_next = cycle_beside s b e in
        behind_cycles es (with_cycle s a e) (with_cycle s b e) (a_next.states ∙ af) (b_next.states ∙ bf)
        (ap (λ (m : NormalKept). m.draft) a_next.normal ∙ draft)
        (next_late b e es first legal.1) legal.1
        (behind_cycle measure s n x y same apart e (λ j low carried shown. shown_carried s marks b e y legal.0 is j low (carried_some x j carried) shown) a b (state_first a k af first draft) (state_next b k is) h)
