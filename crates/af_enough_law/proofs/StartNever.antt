-- No run of a script with enough cycles is still going after as many rounds as are enough, if its tracks start to flow early and its mixers end in time.
use Rattle.std.proofs.Common.{◌≡◌, ℕ, ◌+◌, ◌^◌, ◌≤◌, ◌<◌, true, false, List, length, take, arith}
use Rattle.af_enough_law.proofs.Common.{Frame, HasEnoughCycles, IsScript, LegalRounds, Marks, RoundSeen, ScriptData, enough_rounds, new_run, run_from, session_of, spec_of}
use Rattle.af_enough_law.proofs.Ends.{AllOver}
use Rattle.af_enough_law.proofs.AllAble.{keeps_able}
use Rattle.af_enough_law.proofs.MiddleNever.{Starts, middle_never}
use Rattle.af_enough_law.proofs.NearSums.{way_few}
use Rattle.af_enough_law.proofs.TrackAble.{AllAble}

-- If all tracks have started to flow within 38 rounds, some run has ended all lives ten rounds before those that are enough are over
pub start_never : (script : ScriptData) (files : List (List Frame)) (marks : Marks) → IsScript script → HasEnoughCycles script → ((i : ℕ) → i < length script.tracks → marks.commands i ≡ true) → (rounds : List RoundSeen) → length rounds ≡ enough_rounds script
    → LegalRounds false (session_of script files) marks (new_run (session_of script files)) rounds
    → ((k : ℕ) → k + 10 ≤ enough_rounds script → AllOver (run_from (session_of script files) (new_run (session_of script files)) (take k rounds)).normal.tracks → ⊥)
    → (k : ℕ) → k ≤ 38 → (most total : ℕ → ℕ) → Starts (session_of script files) (run_from (session_of script files) (new_run (session_of script files)) (take k rounds)) most total (AllAble (session_of script files)) → ⊥
start_never script files marks is enough lawful rounds count legal never k early most total starts =
    middle_never script files marks is enough lawful rounds count legal never k early most total (AllAble (session_of script files)) (keeps_able script files marks is lawful most total under) starts
  where
    under : (i : ℕ) → i < length script.tracks → total i < (spec_of (session_of script files) i).base + 2 ^ 32
    under i named =
        let start = starts.tracks i named in
        let same = start.1 in
        let few = way_few script files i is enough named start.0 in
        omega (arith, same, few)
