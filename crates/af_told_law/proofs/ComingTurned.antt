-- What is on its way between the mixers after a turn of the normal mixer that goes on, by what was before it, and where the slots of the observer's state lead.
use Rattle.std.proofs.Common.{◌≡◌, ◌≢◌, ⊎_elim, ℕ, ◌-◌, ◌<◌, ◌&&◌, not, nat_lt, Bool, true, false, true≢false, is_some, List, [], ◌∷◌, ◌++◌, length, Option, Some, None, refl, sym, ap, subst, ◌∙◌, arith}
use Rattle.af_told_law.proofs.Common.{AreTogether, FastState, HasStateHistory, IsLegal, Links, MutatorPoint, NormalState, ObserverPoint, Outside, Polls, Pushes, Run, ServerState, Session, SessionState, StreamNames, Turn, and_parts, at, away_slot, both_first, carries, cases_eq, cycle_frames, fold-append, is_pushed, kept_of, lt-ltb, mutated, not-true, observed, observer_next, observer_start, pushed_states, slot_for, slot_number, slots, state_at, track_at, turn_of}
use Rattle.af_told_law.specs.Leads.{Leads}
use Rattle.af_model.specs.declared.states.MutatorEvent.TheVariants as mutator
use Rattle.af_model.specs.declared.states.ObserverEvent.TheVariants as observer
use Rattle.af_told_law.proofs.NormalSteps.{turned_leads}
use Rattle.af_told_law.proofs.QueueSeen.{SawUpTo, few_seen}
use Rattle.af_told_law.specs.Between.{StandsBefore}
use Rattle.af_told_law.proofs.Places.{IsLentBy, StreamsGo, slot_in}
use Rattle.af_told_law.specs.QueueTurned.{QueueKnown}
use Rattle.af_told_law.specs.Tells.{Tells, held_slot, is_coming, is_going, items_given, mutated_by}
use Rattle.af_told_law.proofs.LooksTurned.{all_polled, coming_parts, level, sane, unseen}
use Rattle.af_told_law.proofs.SlotHeld.{found_carries, found_track}
use Rattle.af_told_law.proofs.StateBefore.{before_told}
use Rattle.af_told_law.specs.Deeds.{Deeds}

module _ (links : Links) (x : SessionState) (n : NormalState) (o : Outside) (legal : IsLegal o x.normal n) (runs : (turn_of n.entry).ended ≡ false) (goes : StreamsGo o x.normal n (turn_of n.entry)) (before : AreTogether links x) (after : AreTogether links (record x { normal = n }))
    (stands : StandsBefore x) (c d : ℕ) (later : HasStateHistory x.normal.mutator.past.first (n.mutator.past.events ++ mutator.Learn c ∷ []) (x.fast.observer.past.events ++ observer.Learn d ∷ [])) where
  abbrev e : Turn
  e = turn_of n.entry

  abbrev m : Pushes ServerState StreamNames
  m = x.normal.mutator.past

  abbrev f : Polls ServerState StreamNames
  f = x.fast.observer.past

  abbrev t : MutatorPoint ServerState
  t = mutated_by x.normal

  pushed_is : t.pushed ≡ m.number
  pushed_is = stands.step.tells.pushed m.first

  -- ## After the turn

  -- a state that was pushed in the turn is on its way
  pushed_going : is_pushed e.push ≡ true → is_going n x.fast ≡ true
  pushed_going is = let few = stands.step.few in let now = (goes.queue.shown is).0 in lt-ltb f.number n.mutator.past.number (omega (arith, few, now))

  -- if no state was pushed, what is on its way after the turn was so before
  pub going_before : is_pushed e.push ≡ false → is_going n x.fast ≡ true → is_going x.normal x.fast ≡ true
  going_before off going = ap (λ (k : ℕ). nat_lt f.number k) (sym (goes.queue.still off).0) ∙ going

  pub coming_before : is_coming n x.fast ≡ true → (is_pushed e.push ≡ false) × (e.ack ≡ false) × (is_coming x.normal x.fast ≡ true)
  coming_before coming = by_push (is_pushed e.push) refl
    where
      parts : (not (is_going n x.fast) ≡ true) × (not (mutated_by n).clear ≡ true)
      parts = and_parts (not (is_going n x.fast)) (not (mutated_by n).clear) coming

      by_push : (b : Bool) → is_pushed e.push ≡ b → (is_pushed e.push ≡ false) × (e.ack ≡ false) × (is_coming x.normal x.fast ≡ true)
      by_push true is = absurd (true≢false (sym (pushed_going is) ∙ not-true (is_going n x.fast) parts.0))
      by_push false off =
          let ack : e.ack ≡ false = sym (goes.queue.same_clear off pushed_is) ∙ not-true (mutated_by n).clear parts.1 in
          let none : is_going x.normal x.fast ≡ false = ap (λ (k : ℕ). nat_lt f.number k) (sym (goes.queue.still off).0) ∙ not-true (is_going n x.fast) parts.0 in
          (off, ack, (λ j. not (none j) && not (unseen x n o legal runs goes before.fast.0 stands.step stands.history c d later ack j)))

  pub coming_now : is_pushed e.push ≡ false → e.ack ≡ false → is_coming x.normal x.fast ≡ true → is_coming n x.fast ≡ true
  coming_now off ack coming =
      let parts = and_parts (not (is_going x.normal x.fast)) (not t.clear) coming in
      let none : is_going n x.fast ≡ false = ap (λ (k : ℕ). nat_lt f.number k) (goes.queue.still off).0 ∙ not-true (is_going x.normal x.fast) parts.0 in
      let clear : (mutated_by n).clear ≡ false = goes.queue.same_clear off pushed_is ∙ ack in
      (λ j. not (none j) && not (clear j))

  -- ## Where the observer's state leads

  acked_is : (observed (f.events ++ observer.Learn d ∷ [])).acked ≡ f.number
  acked_is = ap (λ (p : ObserverPoint ServerState). p.acked) (fold-append observer_next observer_start f.events (observer.Learn d ∷ [])) ∙ before.fast.0.observer.told.acked

  saw : SawUpTo f.number (n.mutator.past.events ++ mutator.Learn c ∷ [])
  saw = subst (λ (k : ℕ). SawUpTo k (n.mutator.past.events ++ mutator.Learn c ∷ [])) acked_is (few_seen m.first _ _ later)

  pub leads_after : Leads f.state (kept_of n)
  leads_after = turned_leads links x.normal n before.normal o legal f.state f.number stands.step.few stands.step.same before.fast.0.begins c saw stands.leads

  -- ## A track that was lent in the turn

  module _ (s : Session) (run : Run) {deeds : Deeds} (told : Tells s run deeds x) (known : QueueKnown (cycle_frames s) run x.normal) (i : ℕ) (lent : IsLentBy o goes.back goes.sent x.normal n (turn_of n.entry) i) where
    abbrev slot : ℕ
    slot = slot_in n i

    pub lent_low : slot_in n i < slots
    lent_low = (away_slot (kept_of n) after.normal.tied.sound i lent.away).1

    some_pushed : 0 < m.number → 0 < length run.states
    some_pushed some = let number = told.normal.number in omega (arith, some, number)

    -- the observer's state is the last one, or the one before it, and neither carries the slot
    off_state : f.number ≢ 0 → carries f.state (slot_in n i) ≡ true → ⊥
    off_state some on = ⊎_elim
        (λ (all : f.number ≡ m.number). true≢false (sym on ∙ ap (λ (y : FastState). carries y slot) (stands.step.same (omega (arith, some, all)) all) ∙ lent.last))
        (λ (other : f.number ≢ m.number). by_ack e.ack refl other)
        (cases_eq f.number m.number)
      where
        by_ack : (b : Bool) → e.ack ≡ b → f.number ≢ m.number → ⊥
        by_ack true ack other = other (all_polled x n o legal runs goes before.fast.0 stands.step stands.history c d later ack)
        by_ack false off other =
            let few = stands.step.few in
            let near = level x n o legal runs goes before.fast.0 stands.step stands.history c d later in
            let current = told.fast.current in
            let number = told.normal.number in
            let one : run.current ≡ length run.states - 1 = omega (arith, few, near, other, current, number) in
            let state : f.state ≡ m.before = told.fast.state ∙ ap (state_at (cycle_frames s) run.states) one ∙ sym (known.before (some_pushed (omega (arith, few, some)))) in
            true≢false (sym on ∙ ap (λ (y : FastState). carries y slot) state ∙ lent.before off)

    pub lent_off : held_slot x.fast i ≡ None
    lent_off = by_found (slot_for f.state i) refl
      where
        by_found : (found : Option ℕ) → slot_for f.state i ≡ found → held_slot x.fast i ≡ None
        by_found None none = none
        by_found (Some j) found =
            let held = found_carries f.state i j found in
            let track = found_track f.state i j found in
            let same : slot_in n i ≡ j = ap (λ (l : ℕ). slot_number (track_at n.tracks l)) (sym track) ∙ (leads_after.state j held.0 held.1).1 in
            absurd (⊎_elim
            (λ (none : f.number ≡ 0). true≢false (sym held.1 ∙ before.fast.0.begins none j held.0))
            (λ (some : f.number ≢ 0). off_state some (ap (carries f.state) same ∙ held.1))
            (cases_eq f.number 0))

    -- no item of the last push before the turn is of the slot
    pub lent_new : (p : ServerState) → 0 < m.number → at t.items (slot_in n i) ≡ Some p → ⊥
    lent_new p some here =
        let sent = (sane x n o legal runs goes before.fast.0 stands.step stands.history c d later).sent (let same = pushed_is in omega (arith, some, same)) in
        let on : carries t.last slot ≡ true = both_first (carries t.last slot) _ (sym (sent.1 slot lent_low) ∙ ap is_some here) in
        true≢false (sym on ∙ ap (λ (y : FastState). carries y slot) (stands.step.tells.last some m.first) ∙ lent.last)

    -- no item is on its way back for the slot, if the last state isn't seen acknowledged
    pub lent_back : (p : ServerState) → e.ack ≡ false → is_coming x.normal x.fast ≡ true → at (items_given x.fast) (slot_in n i) ≡ Some p → ⊥
    lent_back p off coming here =
        let parts = coming_parts x n o legal runs goes before.fast.0 stands.step stands.history c d later coming in
        let some : 0 < m.number = (legal.legal.goes_on runs).ack off in
        let all : (observed f.events).acked ≡ t.pushed = before.fast.0.observer.told.acked ∙ parts.0 ∙ sym pushed_is in
        let given = (sane x n o legal runs goes before.fast.0 stands.step stands.history c d later).given parts.1 all in
        let on : carries t.before slot ≡ true = both_first (carries t.before slot) _ (sym (given.1 slot lent_low) ∙ ap is_some here) in
        let many : 0 < length (pushed_states m.events) = subst (λ (ys : List FastState). 0 < length ys) (sym told.normal.states) (some_pushed some) in
        let state : t.before ≡ m.before =
        ap (λ (y : FastState). (mutated y m.events).before) told.shared.first
        ∙ before_told (cycle_frames s) m.events many
        ∙ ap (λ (ys : List FastState). state_at (cycle_frames s) ys (length ys - 1)) told.normal.states
        ∙ sym (known.before (some_pushed some)) in
        true≢false (sym on ∙ ap (λ (y : FastState). carries y slot) state ∙ lent.before off)
