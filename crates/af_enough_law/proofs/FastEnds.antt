-- The fast mixer ends in a round before which an Exit was pushed last.
use Rattle.std.proofs.Common.{◌≡◌, ◌⊎◌, inl, inr, ℕ, ◌+◌, ◌≤◌, ◌||◌, Bool, true, false, Some, List, [], ◌∷◌, ◌++◌, length, sym, ap, ◌∙◌, subst, arith, length-append}
use Rattle.af_enough_law.proofs.Common.{CycleEntry, EntrySeen, Exit, FastState, LegalEntries, LegalEntry, LegalRound, Marks, RoundSeen, Run, Session, after_round, after_turn, all_played, before_turn, calls_states, cold_done, cycle_by, cycle_of, early_count, early_of, fast_ended, fold-append, found_in, has_exit, late_of, met_after, or_true, state_more, state_of, take-append-drop, with_calls, with_cycle, with_cycles, with_poll}
use Rattle.af_model.specs.Cycles.{is_exit}
use Rattle.af_enough_law.proofs.FastWords.{AllUse, KnowsStates}
use Rattle.af_enough_law.proofs.FastFound.{cycle_current}
use Rattle.af_enough_law.proofs.FastPolls.{fast_parts, parts_use, turn_more}
use Rattle.af_enough_law.proofs.FastReports.{turned_same, loaded_same, met_same, ends_same}
use Rattle.af_enough_law.proofs.FastSteps.{cycle_states}
use Rattle.af_enough_law.proofs.QueueRounds.{some_entry, some_part}

pub exit_added : (entries : List CycleEntry) (entry : CycleEntry) → (is_exit entry.cycle ≡ true) ⊎ (has_exit entries ≡ true) → has_exit (entries ++ entry ∷ []) ≡ true
exit_added entries entry h = fold-append (λ (found : Bool) (x : CycleEntry). found || is_exit x.cycle) false entries (entry ∷ []) ∙ by h
  where
    by : (is_exit entry.cycle ≡ true) ⊎ (has_exit entries ≡ true) → (has_exit entries || is_exit entry.cycle) ≡ true
    by (inl is) = ap (λ (b : Bool). has_exit entries || b) is ∙ or_true (has_exit entries)
    by (inr is) = ap (λ (b : Bool). b || is_exit entry.cycle) is

entry_exits : (s : Session) (marks : Marks) (run : Run) (e : EntrySeen) (x : FastState) → LegalEntry s marks (with_poll s e.entry.state run) e → state_of run.states e.entry.state ≡ Some x → x.command ≡ Exit → is_exit e.entry.cycle ≡ true
unfolding with_poll
entry_exits s marks run e x legal is exits =
    let done : ℕ = cold_done run.states run.entries in
    ap is_exit (legal.cycle.what ∙ ap (cycle_of done) is ∙ ap (cycle_by done x.cold_gen) exits)

entries_exit : (s : Session) (marks : Marks) (n : ℕ) (x : FastState) → x.command ≡ Exit → (es : List EntrySeen) (run : Run) → AllUse n n es → LegalEntries s marks run es → state_of run.states n ≡ Some x → (1 ≤ length es) ⊎ (has_exit run.entries ≡ true) → has_exit (with_cycles s es run).entries ≡ true
entries_exit s marks n x exits [] run uses legal is (inl some) = absurd (let z : ⊥ = omega (arith, some) in z)
entries_exit s marks n x exits [] run uses legal is (inr done) = done
entries_exit s marks n x exits (e ∷ es) run uses legal is h =
    let next = with_cycle s run e in
    let here : e.entry.state ≡ n = (let a = uses.0 in let b = uses.1 in omega (arith, a, b)) in
    let now : is_exit e.entry.cycle ≡ true = entry_exits s marks run e x legal.0 (ap (state_of run.states) here ∙ is) exits in
    entries_exit s marks n x exits es next uses.2 legal.1 (ap (λ l. state_of l n) (cycle_states s run e) ∙ is) (inr (ap has_exit (cycle_current s run e).1 ∙ exit_added run.entries e.entry (inl now)))

-- A round that pushes no state, before which an Exit was pushed last, ends the fast mixer
pub fast_exits : (s : Session) (marks : Marks) (run : Run) (round : RoundSeen) (x : FastState) → LegalRound false s marks run round → fast_ended run ≡ false → KnowsStates s run → state_of run.states (length run.states) ≡ Some x → x.command ≡ Exit
    → length (after_turn s run round).states ≡ length run.states → fast_ended (after_round s run round) ≡ true
fast_exits s marks run round x legal going knows is exits pushes =
    let parts = fast_parts s marks run round legal going in
    let uses = parts_use s marks run round legal going knows in
    let n : ℕ = length run.states in
    let called : Run = with_calls round run in
    let before : Run = before_turn s run round in
    let turn : Run = after_turn s run round in
    let late : Run = with_cycles s (late_of run round) turn in
    let uses_late : AllUse n n (late_of run round) = subst (λ m. AllUse n m (late_of run round)) pushes uses.late in
    let cut : early_of run round ++ late_of run round ≡ round.entries = take-append-drop (early_count run round) round.entries in
    let some = some_entry _ round.entries parts.turn.1 in
    let sum : length (early_of run round) + length (late_of run round) ≡ length round.entries = sym (length-append (early_of run round) (late_of run round)) ∙ ap length cut in
    let called_is : state_of called.states n ≡ Some x = ap (λ l. state_of l n) (calls_states round run) ∙ is in
    let more = turn_more s run round in
    let turn_is : state_of turn.states n ≡ Some x = ap (λ l. state_of l n) more.whole ∙ state_more run.states more.more n (omega arith) ∙ is in
    let c2 = turned_same s (found_in s run round) round.turn before in
    let all : Run = all_played s run round in
    let end : Run = met_after s run round in
    let rest : (after_round s run round).entries ≡ late.entries = (ends_same end).entries ∙ (met_same s all).entries ∙ (loaded_same round.turn late).entries in
    ap has_exit rest ∙ by (some_part (length (early_of run round)) (length (late_of run round)) (omega (arith, some, sum)))
    (λ h. ap has_exit c2.entries ∙ entries_exit s marks n x exits (early_of run round) called uses.early parts.early called_is (inl h))
    (λ h. entries_exit s marks n x exits (late_of run round) turn uses_late parts.late turn_is h)
  where
    by : {a b : ℕ} {first last : Type 0} → (1 ≤ a) ⊎ (1 ≤ b) → (1 ≤ a → first) → ((1 ≤ b) ⊎ first → last) → last
    by (inl h) f g = g (inr (f h))
    by (inr h) f g = g (inl h)
