-- If the states that a round may use mix, each of its entries is Mixed.
use Rattle.std.proofs.Common.{◌≡◌, ◌⊎◌, inl, inr, ℕ, ◌≤◌, true, false, true≢false, Option, Some, List, [], ◌∷◌, ◌++◌, length, sym, ap, ◌∙◌, subst, arith, append-nil}
use Rattle.af_enough_law.proofs.Common.{AreMixedBut, Cycle, EntrySeen, FastState, LegalEntries, LegalEntry, LegalRound, Marks, MixWrite, RoundSeen, Run, Session, after_round, after_turn, calls_states, cold_done, cycle_by, cycle_of, early_count, early_of, fast_ended, is_mixed, late_of, state_more, state_of, take-append-drop, with_calls, with_cycle, with_poll}
use Rattle.af_enough_law.proofs.Basics.{state_there}
use Rattle.af_enough_law.proofs.FastWords.{KnowsStates, AllUse, AllStates, AllMixed, MixesAll}
use Rattle.af_enough_law.proofs.FastSteps.{cycle_states}
use Rattle.af_enough_law.proofs.FastPolls.{MoreStates, round_states, turn_more, parts_use, fast_parts}

-- ## States by their numbers

-- the state that an entry uses
pub record Uses (P : FastState → Type 0) (states : List FastState) (k : ℕ) : Type 0 where
  pub state : FastState
  pub is : state_of states k ≡ Some state
  pub holds : P state

-- an entry uses a state of which P holds, by the states of a later run
pub uses_of : (P : FastState → Type 0) (run after now : Run) (k : ℕ) → AllStates run after P → (more : List FastState) → after.states ≡ now.states ++ more → length run.states ≤ k → k ≤ length now.states → Uses P now.states k
uses_of P run after now k all more whole low high =
    let there = state_there now.states k (let a = all.0 in omega arith) high in
    record { state = there.0; is = there.1; holds = all.1 k there.0 low (ap (λ l. state_of l k) whole ∙ state_more now.states more k high ∙ there.1) }

-- ## Entries

mixed_by : (cycle : Cycle) (done : ℕ) (o : Option FastState) (x : FastState) → cycle ≡ cycle_of done o → o ≡ Some x → x.command ≡ MixWrite → is_mixed cycle ≡ true
mixed_by cycle done o x is some mixes = ap is_mixed (is ∙ ap (cycle_of done) some ∙ ap (cycle_by done x.cold_gen) mixes)

module _ (P : FastState → Type 0) (mixes : (x : FastState) → P x → x.command ≡ MixWrite) (s : Session) (marks : Marks) where
  pub entry_mixed : (run : Run) (e : EntrySeen) → LegalEntry s marks (with_poll s e.entry.state run) e → Uses P run.states e.entry.state → is_mixed e.entry.cycle ≡ true
  unfolding with_poll
  entry_mixed run e legal uses = mixed_by e.entry.cycle (cold_done run.states run.entries) (state_of run.states e.entry.state) uses.state legal.cycle.what uses.is (mixes uses.state uses.holds)

  entries_mixed : (first after : Run) (high : ℕ) (es : List EntrySeen) (run : Run) (more : List FastState) → AllStates first after P → after.states ≡ run.states ++ more → high ≤ length run.states
      → AllUse (length first.states) high es → LegalEntries s marks run es → AllMixed es
  entries_mixed first after high [] run more all whole top uses legal = tt
  entries_mixed first after high (e ∷ es) run more all whole top uses legal =
      let low = uses.1 in (
        entry_mixed run e legal.0 (uses_of P first after run e.entry.state all more whole uses.0 (omega arith)),
        entries_mixed first after high es (with_cycle s run e) more all (whole ∙ ap (λ l. l ++ more) (sym (cycle_states s run e))) (let a = ap length (cycle_states s run e) in omega arith) uses.2 legal.1,
      )

mixed-append : (xs ys : List EntrySeen) → AllMixed xs → AllMixed ys → AllMixed (xs ++ ys)
mixed-append [] ys h t = t
mixed-append (x ∷ xs) ys h t = (h.0, mixed-append xs ys h.1 t)

-- a turn whose entries all mix has all its cycles
whole_by : (n : ℕ) (entries : List EntrySeen) → AllMixed entries → AreMixedBut (λ last. (n ≡ 16) ⊎ (is_mixed last.entry.cycle ≡ false) ⊎ (false ≡ true)) entries → n ≡ 16
whole_by n [] all h = absurd h
whole_by n (e ∷ []) all (inl is) = is
whole_by n (e ∷ []) all (inr (inl still)) = absurd (true≢false (sym all.0 ∙ still))
whole_by n (e ∷ []) all (inr (inr full)) = absurd (true≢false (sym full))
whole_by n (e ∷ next ∷ entries) all h = whole_by n (next ∷ entries) all.1 h.1

-- the parts of a round with the states that they use
pub early_states : (s : Session) (run : Run) (round : RoundSeen) → MoreStates (with_calls round run) (after_round s run round)
early_states s run round = let t = turn_more s run round in record { more = t.more; whole = round_states s run round ∙ t.whole ∙ ap (λ l. l ++ t.more) (sym (calls_states round run)) }

pub late_states : (s : Session) (run : Run) (round : RoundSeen) → MoreStates (after_turn s run round) (after_round s run round)
late_states s run round = record { more = []; whole = round_states s run round ∙ sym (append-nil (after_turn s run round).states) }

pub mixes_all : (s : Session) (marks : Marks) (run : Run) (round : RoundSeen) → LegalRound false s marks run round → fast_ended run ≡ false → KnowsStates s run
    → AllStates run (after_round s run round) (λ x. x.command ≡ MixWrite) → MixesAll round
mixes_all s marks run round legal going knows all =
    let parts = fast_parts s marks run round legal going in
    let uses = parts_use s marks run round legal going knows in
    let P : FastState → Type 0 = λ x. x.command ≡ MixWrite in
    let first = early_states s run round in
    let last = late_states s run round in
    let early = entries_mixed P (λ x h. h) s marks run (after_round s run round) (length run.states) (early_of run round) (with_calls round run) first.more all first.whole (let a = ap length (calls_states round run) in omega arith) uses.early parts.early in
    let late = entries_mixed P (λ x h. h) s marks run (after_round s run round) (length (after_turn s run round).states) (late_of run round) (after_turn s run round) last.more all last.whole (omega arith) uses.late parts.late in
    let mixed : AllMixed round.entries = subst AllMixed (take-append-drop (early_count run round) round.entries) (mixed-append (early_of run round) (late_of run round) early late) in
    record { mixed = mixed; count = whole_by (length round.entries) round.entries mixed parts.turn.1 }
