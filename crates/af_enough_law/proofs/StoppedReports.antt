-- A round whose states have nothing of a track leaves what the reports say of its slot.
use Rattle.std.proofs.Common.{◌≡◌, ℕ, ◌≤◌, ◌<◌, false, Option, Some, None, List, [], ◌∷◌, length, refl, sym, ap, ◌∙◌, subst, arith}
use Rattle.af_enough_law.proofs.Common.{EntrySeen, FastState, LegalEntries, LegalEntry, LegalRound, Marks, RoundSeen, Run, Session, SlotReport, after_round, after_turn, before_turn, calls_states, carries, early_of, entry_slot, fast_ended, found_in, is_shown, last_report, late_of, polled_known, report_at, report_of, slots, state_for, state_of, with_calls, with_cycle, with_cycles, with_looks, with_mix, with_poll}
use Rattle.af_enough_law.proofs.Basics.{state_there}
use Rattle.af_enough_law.proofs.FastWords.{AllUse, KnowsStates, slot_told}
use Rattle.af_enough_law.proofs.FastFound.{adds_more, adds_round}
use Rattle.af_enough_law.proofs.FastPolls.{before_states, round_states, fast_parts, parts_use}
use Rattle.af_enough_law.proofs.FastReports.{slot_counts, calls_same, turned_same, rest_same, slot_same}
use Rattle.af_enough_law.proofs.FastSince.{Adds, adds_none, since_number}
use Rattle.af_enough_law.proofs.FastSteps.{cycle_states}
use Rattle.af_enough_law.proofs.LeftEntries.{IsOut, next_kept, next_unshown, shows_nothing}

-- the states from this number on have nothing of the track
abbrev pub AllOut : ℕ → ℕ → ℕ → Run → Type 0
AllOut slot track n run = (m : ℕ) (y : FastState) → n ≤ m → state_of run.states m ≡ Some y → IsOut slot track y

module _ (s : Session) (marks : Marks) (track slot n : ℕ) (some : 0 < slot) (low : slot < slots) (one : 1 ≤ n) where
  -- what some entries leave, in the run and in the one that the turn finds
  record Untouched (run told : Run) (es : List EntrySeen) : Type 0 where
    actual : slot_told (with_cycles s es run) slot ≡ slot_told run slot
    found : slot_told (with_cycles s es told) slot ≡ slot_told told slot
    adds : Adds told (with_cycles s es told) (λ r. report_at r.slots slot ≡ slot_told told slot)

  entry_kept : (run : Run) (e : EntrySeen) → AllOut slot track n run → n ≤ e.entry.state → e.entry.state ≤ length run.states → slot_told (with_cycle s run e) slot ≡ slot_told run slot
  unfolding with_poll with_mix
  entry_kept run e out high pushed =
      let y = state_there run.states e.entry.state (omega (arith, one, high)) pushed in
      let is : state_for s (with_looks s e (with_poll s e.entry.state run)) e.entry.state ≡ y.0 = polled_known s run e.entry.state y.0 y.1 in
      slot_counts s run e slot low ∙ next_kept s (with_looks s e (with_poll s e.entry.state run)) e.entry (last_report run.reports).slots slot (ap (λ (z : FastState). carries z slot) is ∙ (out e.entry.state y.0 high y.1).free)

  found_kept : (run told : Run) (e : EntrySeen) → AllOut slot track n run → AllOut slot track n told → LegalEntry s marks (with_poll s e.entry.state run) e → n ≤ e.entry.state → e.entry.state ≤ length run.states → slot_told (with_cycle s told e) slot ≡ slot_told told slot
  unfolding with_poll with_mix
  found_kept run told e out out_told legal high pushed = by (state_of told.states e.entry.state) refl
    where
      by : (o : Option FastState) → state_of told.states e.entry.state ≡ o → slot_told (with_cycle s told e) slot ≡ slot_told told slot
      by (Some x) is =
          let at : state_for s (with_looks s e (with_poll s e.entry.state told)) e.entry.state ≡ x = polled_known s told e.entry.state x is in
          slot_counts s told e slot low ∙ next_kept s (with_looks s e (with_poll s e.entry.state told)) e.entry (last_report told.reports).slots slot (ap (λ (z : FastState). carries z slot) at ∙ (out_told e.entry.state x high is).free)
      by None is =
          let y = state_there run.states e.entry.state (omega (arith, one, high)) pushed in
          let unshown : is_shown (entry_slot e.entry slot).seen ≡ false = shows_nothing s marks run e slot y.0 some low legal y.1 (out e.entry.state y.0 high y.1).free in
          slot_counts s told e slot low ∙ next_unshown s (with_looks s e (with_poll s e.entry.state told)) e.entry (last_report told.reports).slots slot is unshown

  out_next : (run : Run) (e : EntrySeen) → AllOut slot track n run → AllOut slot track n (with_cycle s run e)
  out_next run e out m y high is = out m y high (ap (λ l. state_of l m) (sym (cycle_states s run e)) ∙ is)

  untouched : (high : ℕ) (es : List EntrySeen) (run told : Run) → AllOut slot track n run → AllOut slot track n told → AllUse n high es → high ≤ length run.states → LegalEntries s marks run es → Untouched run told es
  untouched high [] run told out out_told uses top legal = record { actual = refl; found = refl; adds = adds_none (λ r. report_at r.slots slot ≡ slot_told told slot) told }
  untouched high (e ∷ es) run told out out_told uses top legal =
      let next : Run = with_cycle s run e in
      let later : Run = with_cycle s told e in
      let most = uses.1 in
      let pushed : e.entry.state ≤ length run.states = omega (arith, most, top) in
      let now = entry_kept run e out uses.0 pushed in
      let found = found_kept run told e out out_told legal.0 uses.0 pushed in
      let rest = untouched high es next later (out_next run e out) (out_next told e out_told) uses.2 (let a = ap length (cycle_states s run e) in omega (arith, a, top)) legal.1 in
      let more : Adds later (with_cycles s es later) (λ r. report_at r.slots slot ≡ slot_told told slot) = subst (λ (x : SlotReport). Adds later (with_cycles s es later) (λ r. report_at r.slots slot ≡ x)) found rest.adds in
      record { actual = rest.actual ∙ now; found = rest.found ∙ found; adds = adds_more s slot (λ r. r ≡ slot_told told slot) told e es found more }

-- what a round leaves of the reports of a slot whose states have nothing of the track
pub record SameSlot (s : Session) (run : Run) (round : RoundSeen) (slot : ℕ) : Type 0 where
  pub found : (m : ℕ) → length run.reports ≤ m → m ≤ length (with_cycles s round.entries (with_calls round run)).reports → report_at (report_of (with_cycles s round.entries (with_calls round run)).reports m).slots slot ≡ slot_told run slot
  pub last : slot_told (after_round s run round) slot ≡ slot_told run slot

pub slot_untouched : (s : Session) (marks : Marks) (run : Run) (round : RoundSeen) (track slot : ℕ) → LegalRound false s marks run round → fast_ended run ≡ false → KnowsStates s run → 0 < slot → slot < slots → 1 ≤ length run.states → AllOut slot track (length run.states) (after_round s run round)
    → AllOut slot track (length run.states) run → SameSlot s run round slot
slot_untouched s marks run round track slot legal going knows some low one out out_before =
    let parts = fast_parts s marks run round legal going in
    let uses = parts_use s marks run round legal going knows in
    let called : Run = with_calls round run in
    let before : Run = before_turn s run round in
    let turn : Run = after_turn s run round in
    let late : Run = with_cycles s (late_of run round) turn in
    let n : ℕ = length run.states in
    let out_called : AllOut slot track n called = λ m y high is. out_before m y high (ap (λ l. state_of l m) (sym (calls_states round run)) ∙ is) in
    let out_found : AllOut slot track n before = λ m y high is. out_before m y high (ap (λ l. state_of l m) (sym (before_states s run round)) ∙ is) in
    let out_turn : AllOut slot track n turn = λ m y high is. out m y high (ap (λ l. state_of l m) (round_states s run round) ∙ is) in
    let e1 = untouched s marks track slot n some low one n (early_of run round) called called out_called out_called uses.early (let a = ap length (calls_states round run) in omega (arith, a)) parts.early in
    let e2 = untouched s marks track slot n some low one (length turn.states) (late_of run round) turn before out_turn out_found uses.late (omega arith) parts.late in
    let c1 = calls_same round run in
    let c2 = turned_same s (found_in s run round) round.turn before in
    let first : slot_told called slot ≡ slot_told run slot = slot_same run called slot c1 in
    let early : slot_told before slot ≡ slot_told run slot = e1.actual ∙ first in
    let a1 : Adds called before (λ r. report_at r.slots slot ≡ slot_told run slot) = subst (λ (x : SlotReport). Adds called before (λ r. report_at r.slots slot ≡ x)) first e1.adds in
    let a2 : Adds before (with_cycles s (late_of run round) before) (λ r. report_at r.slots slot ≡ slot_told run slot) = subst (λ (x : SlotReport). Adds before (with_cycles s (late_of run round) before) (λ r. report_at r.slots slot ≡ x)) early e2.adds in
    let adds = adds_round s run round (λ r. report_at r.slots slot ≡ slot_told run slot) a1 a2 in
    record {
      found = λ m lo hi. since_number called (with_cycles s round.entries called) (λ r. report_at r.slots slot ≡ slot_told run slot) m adds first (let a = ap length c1.reports in omega (arith, a, lo)) hi;
      last = slot_same late (after_round s run round) slot (rest_same s run round) ∙ e2.actual ∙ slot_same before turn slot c2 ∙ early;
    }
