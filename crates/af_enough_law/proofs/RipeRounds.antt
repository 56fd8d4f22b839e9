-- No state pushed and no report stored so far has a generation of a slot above that of the draft.
use Rattle.std.proofs.Common.{◌≡◌, ℕ, ◌≤◌, ◌<◌, true, false, All, [], length, sym, ap, ◌∙◌, subst, arith}
use Rattle.af_enough_law.proofs.Common.{LegalRound, Marks, NormalKept, RoundSeen, Run, Session, Setting, SlotReport, after_round, after_turn, all_played, before_turn, calls_states, carries, early_of, found_in, get_or-replicate, last_report, late_of, learnt, met_after, new_run, no_slot, report_at, setup_of, slot_of, slots, state_of, track_count, with_calls, with_cycles}
use Rattle.af_enough_law.proofs.Carried.{SessionStands}
use Rattle.af_enough_law.proofs.FastWords.{slot_told}
use Rattle.af_enough_law.proofs.FastPolls.{round_states}
use Rattle.af_enough_law.proofs.FastReports.{SameReports, calls_same, turned_same, loaded_same, met_same, ends_same, same_both, slot_same}
use Rattle.af_enough_law.proofs.SessionRounds.{turn_of, turn_runs}
use Rattle.af_enough_law.proofs.SlotDrafts.{SlotStays, turn_slot, generation_rises}
use Rattle.af_enough_law.proofs.StatesHold.{states_all}
use Rattle.af_enough_law.proofs.SlotReports.{Carry, cycles_generations}
use Rattle.af_enough_law.proofs.RoundCalm.{legal_parts}
use Rattle.af_enough_law.proofs.Basics.{none_exit}

-- ## The reports of a round

-- the generation in the last report after a round
pub round_generation : (s : Session) (marks : Marks) (run : Run) (round : RoundSeen) → LegalRound false s marks run round → (i : ℕ) (low : i < slots) (P : ℕ → Type 0) → Carry s i low P (after_round s run round) → Carry s i low P run → P (slot_told run i).generation → P (slot_told (after_round s run round) i).generation
round_generation s marks run round legal i low P later carry told =
    let after : Run = after_round s run round in
    let called : Run = with_calls round run in
    let before : Run = before_turn s run round in
    let turn : Run = after_turn s run round in
    let late : Run = with_cycles s (late_of run round) turn in
    let parts = legal_parts false s marks run round legal in
    let c1 : SameReports run called = calls_same round run in
    let c2 : SameReports before turn = turned_same s (found_in s run round) round.turn before in
    let c3 : SameReports late after = same_both late (all_played s run round) after (loaded_same round.turn late) (same_both (all_played s run round) (met_after s run round) after (met_same s (all_played s run round)) (ends_same (met_after s run round))) in
    let first : P (slot_told before i).generation = cycles_generations s i low P marks (early_of run round) called parts.0 (λ k z at c. carry k z (ap (λ l. state_of l k) (sym (calls_states round run)) ∙ at) c) (subst (λ (r : SlotReport). P r.generation) (sym (slot_same run called i c1)) told) in
    let last : P (slot_told late i).generation = cycles_generations s i low P marks (late_of run round) turn parts.1 (λ k z at c. later k z (ap (λ l. state_of l k) (round_states s run round) ∙ at) c) (subst (λ (r : SlotReport). P r.generation) (sym (slot_same before turn i c2)) first) in
    subst (λ (r : SlotReport). P r.generation) (sym (slot_same late after i c3)) last

-- ## No generation above the draft's

-- the generation that the draft has of a slot
abbrev pub generation_of : Run → ℕ → ℕ
generation_of run n = (slot_of run.normal.draft n).generation

-- no state pushed that carries the slot, and no report, has a higher generation
pub record IsRipe (s : Session) (run : Run) (n : ℕ) (low : n < slots) : Type 0 where
  pub states : Carry s n low (λ g. g ≤ generation_of run n) run
  pub told : (slot_told run n).generation ≤ generation_of run n

pub new_ripe : (s : Session) (n : ℕ) (low : n < slots) → IsRipe s (new_run s) n low
new_ripe s n low = record {
  states = λ k z at. absurd (none_exit k z at);
  told = (let e : (report_at (last_report []).slots n).generation ≡ 0 = ap (λ (r : SlotReport). r.generation) (get_or-replicate slots n no_slot no_slot low) in omega (arith, e));
}

module _ (s : Session) (marks : Marks) (scales : All (λ (x : Setting). x.scale ≤ 4096) (setup_of s).settings) (long : length (setup_of s).settings ≡ track_count s) (run : Run) (round : RoundSeen) (legal : LegalRound false s marks run round) (c : SessionStands s run) where
  -- what the turn leaves of a slot of the draft
  pub round_slot : (n : ℕ) → n < slots → SlotStays run.normal.draft (after_round s run round).normal.draft n
  round_slot n low =
      let t = turn_of s marks scales long run round legal c in
      subst (λ (m : NormalKept). SlotStays run.normal.draft m.draft n) (sym t.after) (turn_slot (setup_of s) n low scales (learnt t.by.outside) run.normal t.turn (let a = c.kept in omega (arith, a, long)) (turn_runs s marks scales long run round legal c) c.order.sound)

  pub round_ripe : (n : ℕ) (low : n < slots) → IsRipe s run n low → IsRipe s (after_round s run round) n low
  round_ripe n low ripe =
      let after : Run = after_round s run round in
      let rises = generation_rises run.normal.draft after.normal.draft n (round_slot n low) in
      let states : Carry s n low (λ g. g ≤ generation_of after n) after = λ k z at carried.
      states_all s marks scales long run round legal c (λ z. carries z n ≡ true → (slot_of z n).generation ≤ generation_of after n) (λ k z at carried. let a = ripe.states k z at carried in omega (arith, a, rises)) (λ pushed carried. omega arith) k z at carried in
      record {
        states = states;
        told = (let told = ripe.told in round_generation s marks run round legal n low (λ g. g ≤ generation_of after n) states (λ k z at carried. let a = ripe.states k z at carried in omega (arith, a, rises)) (omega (arith, told, rises)));
      }
