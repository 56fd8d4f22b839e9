-- What the reports tell of a slot comes from the states that carry it: so no report has a generation that no state has.
use Rattle.std.proofs.Common.{◌≡◌, ℕ, ◌<◌, ◌||◌, is_some, unwrap_or, if◌then◌else◌, Bool, true, false, true≢false, Option, Some, None, List, [], ◌∷◌, refl, sym, ap, ◌∙◌, subst, ◌≤◌, length}
use Rattle.af_enough_law.proofs.Common.{CycleEntry, EntrySeen, FastState, LegalEntries, Marks, Run, ServerKnown, Session, SlotReport, carried, carries, counted_look, cycle_frames, entry_slot, initial, initial_none, known_of, last_used, listed, no_slot, polled_pushed, slot_of, slot_report, slots, state_at, state_for, state_of, stream_of, with_cycle, with_cycles, with_looks, with_poll}
use Rattle.af_runs.specs.Runs.{shows_slot}
use Rattle.af_enough_law.proofs.FastWords.{slot_told}
use Rattle.af_enough_law.proofs.FastReports.{slot_counts}
use Rattle.af_enough_law.proofs.FastSteps.{cycle_states, entry_pushed}

-- ## The states of a run

-- what holds of those that were pushed, and of the one before any edit, holds of the state of each number
pub state_at_all : (frames : ℕ) (xs : List FastState) (R : FastState → Type 0) → ((k : ℕ) (z : FastState) → state_of xs k ≡ Some z → R z) → R (initial frames) → (k : ℕ) → R (state_at frames xs k)
state_at_all frames xs R h r k = by (state_of xs k) refl
  where
    by : (o : Option FastState) → state_of xs k ≡ o → R (unwrap_or o (initial frames))
    by (Some z) is = h k z is
    by None is = r

-- ## One entry

module _ (s : Session) (i : ℕ) (low : i < slots) (P : ℕ → Type 0) where
  -- the states carry the slot only with such a generation
  abbrev pub Carry : Run → Type 0
  Carry run = (k : ℕ) (z : FastState) → state_of run.states k ≡ Some z → carries z i ≡ true → P (slot_of z i).generation

  either_report : (b : Bool) (r q : SlotReport) → P r.generation → P q.generation → P (if b then r else q).generation
  either_report true r q h g = h
  either_report false r q h g = g

  carried_report : (asked : ℕ) (x : FastState) (y : Option FastState) (entry : CycleEntry) (known : ServerKnown) (before : SlotReport) → (carries x i ≡ true → P (slot_of x i).generation) → P before.generation → P (slot_report asked (Some x) y entry known i before).generation
  carried_report asked x y entry known before h g = by (carries x i) h
    where
      by : (b : Bool) → (b ≡ true → P (slot_of x i).generation)
          → P (if b then counted_look asked (slot_of x i).generation (entry_slot entry i).seen known (if carried y i then before else no_slot) else before).generation
      by true k = k refl
      by false k = g

  cycle_generation : (run : Run) (e : EntrySeen) → e.entry.state ≤ length run.states → Carry run → P (slot_told run i).generation → P (slot_told (with_cycle s run e) i).generation
  unfolding with_poll
  cycle_generation run e pushed carry told =
      let now : Run = with_looks s e (with_poll s e.entry.state run) in
      let x : FastState = state_for s now e.entry.state in
      let y : FastState = state_for s now (last_used run.entries) in
      let before : SlotReport = slot_told run i in
      let at : state_at (cycle_frames s) run.states e.entry.state ≡ x = sym (polled_pushed s run e.entry.state pushed) in
      let made = carried_report (cycle_frames s) x (Some y) e.entry (known_of (listed (stream_of now x i))) before
      (subst (λ z. carries z i ≡ true → P (slot_of z i).generation) at (state_at_all (cycle_frames s) run.states (λ z. carries z i ≡ true → P (slot_of z i).generation) carry (λ c. P_none c) e.entry.state)) told in
      subst (λ (r : SlotReport). P r.generation) (sym (slot_counts s run e i low)) (either_report (is_some (state_of now.states e.entry.state) || shows_slot x e.entry i) _ before made told)
    where
      P_none : carries (initial (cycle_frames s)) i ≡ true → P (slot_of (initial (cycle_frames s)) i).generation
      P_none c = let none : ⊥ = true≢false (sym c ∙ initial_none (cycle_frames s) i) in absurd none

  -- Legal entries, each of whose states does so, leave such a generation if the last report before them has one
  pub cycles_generations : (marks : Marks) (es : List EntrySeen) (run : Run) → LegalEntries s marks run es → Carry run → P (slot_told run i).generation → P (slot_told (with_cycles s es run) i).generation
  cycles_generations marks [] run legal carry told = told
  cycles_generations marks (e ∷ es) run legal carry told =
      cycles_generations marks es (with_cycle s run e) legal.1 (λ k z at c. carry k z (ap (λ l. state_of l k) (sym (cycle_states s run e)) ∙ at) c) (cycle_generation run e (entry_pushed s marks run e legal.0) carry told)
