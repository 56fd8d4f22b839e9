-- The entries of a round leave the stream block of a track as it is that no state has.
use Rattle.std.proofs.Common.{◌≡◌, ℕ, ◌≤◌, ◌<◌, ◌∷◌, List, [], ◌++◌, length, true, refl, sym, ap, ◌∙◌, arith}
use Rattle.af_enough_law.proofs.Common.{EntrySeen, FastState, Run, Session, carries, polled_known, slot_playing, slot_of, slots, state_for, told_at, with_cycle, with_cycles, with_poll}
use Rattle.af_enough_law.proofs.FastWords.{AllUse, AllStates}
use Rattle.af_enough_law.proofs.FastMixes.{Uses, uses_of}
use Rattle.af_enough_law.proofs.FastSteps.{cycle_states}
use Rattle.af_enough_law.proofs.LeftEntries.{slot_none, track_still}
use Rattle.af_enough_law.proofs.RunTracks.{cycle_long}

-- the state has nothing of the track
abbrev pub HasNone : ℕ → FastState → Type 0
HasNone i x = (j : ℕ) → j < slots → carries x j ≡ true → (slot_of x j).track ≡ i → ⊥

module _ (s : Session) (i : ℕ) (first after : Run) (all : AllStates first after (HasNone i)) where
  entry_still : (run : Run) (e : EntrySeen) → i < length run.tracks → Uses (HasNone i) run.states e.entry.state → told_at (with_cycle s run e) i ≡ told_at run i
  entry_still run e low uses =
      let actual : state_for s (with_poll s e.entry.state run) e.entry.state ≡ uses.state = polled_known s run e.entry.state uses.state uses.is in
      track_still s run e i low (ap (λ (z : FastState). slot_playing z e.entry i) actual ∙ slot_none uses.state e i (λ j less carried shown at. uses.holds j less carried at))

  pub entries_still : (high : ℕ) (es : List EntrySeen) (run : Run) (more : List FastState) → i < length run.tracks → after.states ≡ run.states ++ more → high ≤ length run.states → AllUse (length first.states) high es → told_at (with_cycles s es run) i ≡ told_at run i
  entries_still high [] run more low whole top uses = refl
  entries_still high (e ∷ es) run more low whole top uses =
      let up = uses.1 in
      let states = cycle_states s run e in
      let long = ap length states in
      let many = cycle_long s run e in
      entries_still high es (with_cycle s run e) more (omega (arith, many, low)) (whole ∙ ap (λ (l : List FastState). l ++ more) (sym states)) (omega (arith, long, top)) uses.2
      ∙ entry_still run e low (uses_of (HasNone i) first after run e.entry.state all more whole uses.0 (omega (arith, up, top)))
