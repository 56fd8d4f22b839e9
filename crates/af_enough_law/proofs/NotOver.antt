-- A run that still goes after as many rounds as are enough has a life that hasn't ended ten rounds before.
use Rattle.std.proofs.Common.{◌≡◌, ℕ, ◌+◌, ◌≤◌, true, false, true≢false, List, ◌++◌, length, take, drop, sym, ap, ◌∙◌, subst, arith, length-append, length-drop}
use Rattle.af_enough_law.proofs.Common.{Frame, IsScript, LegalRounds, Marks, RoundSeen, ScriptData, Session, all_ended, enough_rounds, new_long, new_run, run_from, session_of, take-append-drop}
use Rattle.af_enough_law.specs.Ending.{StillGoes}
use Rattle.af_enough_law.proofs.Ends.{AllOver}
use Rattle.af_enough_law.proofs.AllEnd.{rounds_end}
use Rattle.af_enough_law.proofs.EndWithin.{both_end}

-- A run of a script has ended ten rounds after every life has
pub run_ends : (s : Session) (marks : Marks) → IsScript s.script → (rounds more : List RoundSeen) → LegalRounds false s marks (new_run s) (rounds ++ more) → AllOver (run_from s (new_run s) rounds).normal.tracks → 10 ≤ length more → all_ended s (run_from s (new_run s) (rounds ++ more)) ≡ true
run_ends s marks is rounds more legal over few =
    let long = length-append rounds more in
    rounds_end s (new_run s) (rounds ++ more) (omega (arith, long, few)) (let many = new_long s in omega (arith, many)) (both_end s marks is rounds more legal over few)

-- In a run that still goes after as many rounds as are enough, some life hasn't ended ten rounds before
pub goes_not_over : (script : ScriptData) (files : List (List Frame)) (marks : Marks) → IsScript script → (goes : StillGoes script files marks) → (n : ℕ) → n + 10 ≤ enough_rounds script
    → (let s = session_of script files in AllOver (run_from s (new_run s) (take n goes.rounds)).normal.tracks → ⊥)
goes_not_over script files marks is goes n few over =
    let s : Session = session_of script files in
    let whole : take n goes.rounds ++ drop n goes.rounds ≡ goes.rounds = take-append-drop n goes.rounds in
    let long = length-drop n goes.rounds in
    let count = goes.count in
    let ended = run_ends s marks is (take n goes.rounds) (drop n goes.rounds) (subst (LegalRounds false s marks (new_run s)) (sym whole) goes.legal) over (omega (arith, few, long, count)) in
    true≢false (sym ended ∙ ap (λ (rounds : List RoundSeen). all_ended s (run_from s (new_run s) rounds)) whole ∙ goes.going)
