-- A run of a script with enough cycles has ended all lives before it is too late for the mixers, if its tracks start to flow early.
use Rattle.std.proofs.Common.{◌≡◌, ℕ, zero, suc, ◌+◌, ◌-◌, ◌^◌, ◌≤◌, ◌<◌, Bool, true, false, List, [], ◌∷◌, length, take, drop, refl, sym, ap, ◌∙◌, subst, arith, length-drop}
use Rattle.af_enough_law.proofs.Common.{Frame, HasEnoughCycles, IsScript, LegalRound, LegalRounds, Marks, RoundSeen, Run, ScriptData, Session, after_round, enough_rounds, is_over, length-map, new_run, plays, run_from, scales_of, session_of, spec_of, spec_setting, track_at, track_count}
use Rattle.af_enough_law.proofs.Ends.{AllOver}
use Rattle.af_enough_law.proofs.Playing.{way_frames}
use Rattle.af_enough_law.proofs.Carrying.{Carried}
use Rattle.af_enough_law.proofs.Middle.{Middle}
use Rattle.af_enough_law.proofs.MiddleEnds.{TrackStarts, portion_at, full_at, middle_start, middle_ends}
use Rattle.af_enough_law.proofs.NearSums.{portion_of, near_costs, way_few}
use Rattle.af_enough_law.proofs.PipeKept.{PipeKept, sized}
use Rattle.af_enough_law.proofs.RunBegins.{Plays, track_plays}

-- ## Parts of a run

later_legal : (cut : Bool) (s : Session) (marks : Marks) (k : ℕ) (run : Run) (rounds : List RoundSeen) → LegalRounds cut s marks run rounds → LegalRounds cut s marks (run_from s run (take k rounds)) (drop k rounds)
later_legal cut s marks zero run rounds legal = legal
later_legal cut s marks (suc k) run [] legal = tt
later_legal cut s marks (suc k) run (round ∷ rounds) legal = later_legal cut s marks k (after_round s run round) rounds legal.1

run_later : (s : Session) (a b : ℕ) (run : Run) (rounds : List RoundSeen) → run_from s run (take (a + b) rounds) ≡ run_from s (run_from s run (take a rounds)) (take b (drop a rounds))
run_later s zero b run rounds = ap (λ (n : ℕ). run_from s run (take n rounds)) (let e : 0 + b ≡ b = omega arith in e)
run_later s (suc a) b run [] = ap (λ (n : ℕ). run_from s run (take n [])) (let e : suc a + b ≡ suc (a + b) = omega arith in e) ∙ none b
  where
    none : (b : ℕ) → run ≡ run_from s run (take b [])
    none zero = refl
    none (suc b) = refl
run_later s (suc a) b run (round ∷ rounds) = ap (λ (n : ℕ). run_from s run (take n (round ∷ rounds))) (let e : suc a + b ≡ suc (a + b) = omega arith in e) ∙ run_later s a b (after_round s run round) rounds

-- ## The start

-- So many first rounds start all tracks, after which all is carried, and what makes each track have two retries
pub record Starts (s : Session) (run : Run) (most total : ℕ → ℕ) (Able : Run → Type 0) : Type 0 where
  pub carried : Carried s run most total
  pub pipe : (i : ℕ) → i < track_count s → plays (track_at run.normal.tracks i).life ≡ true → PipeKept s run
  pub tracks : (i : ℕ) → i < track_count s → (p : Plays (spec_of s i).ops) × (total i ≡ (spec_of s i).base + way_frames p.rest) × TrackStarts s run i p.rest
  pub able : Able run

-- what makes each track have two retries, and that a round of the middle keeps it
pub record KeepsAble (s : Session) (marks : Marks) (most total : ℕ → ℕ) (Able : Run → Type 0) : Type 0 where
  pub two : (run : Run) → Able run → (i : ℕ) → i < track_count s → 2 ≤ (track_at run.normal.tracks i).life.retries
  pub kept : (run : Run) (round next : RoundSeen) (n : ℕ) → LegalRound false s marks run round → LegalRound false s marks (after_round s run round) next → is_over (after_round s run round).normal.tracks ≡ false
      → Middle s run most total (portion_at s) (full_at s) (suc n) → Able run → Able (after_round s run round)

-- ## The whole

-- If that is so within 38 rounds, all lives have ended ten rounds before those that are enough are over, or sooner
pub middle_never : (script : ScriptData) (files : List (List Frame)) (marks : Marks) → IsScript script → HasEnoughCycles script → ((i : ℕ) → i < length script.tracks → marks.commands i ≡ true) → (rounds : List RoundSeen) → length rounds ≡ enough_rounds script
    → LegalRounds false (session_of script files) marks (new_run (session_of script files)) rounds
    → ((k : ℕ) → k + 10 ≤ enough_rounds script → AllOver (run_from (session_of script files) (new_run (session_of script files)) (take k rounds)).normal.tracks → ⊥)
    → (k : ℕ) → k ≤ 38 → (most total : ℕ → ℕ) (Able : Run → Type 0) → KeepsAble (session_of script files) marks most total Able
    → Starts (session_of script files) (run_from (session_of script files) (new_run (session_of script files)) (take k rounds)) most total Able → ⊥
middle_never script files marks is enough lawful rounds count legal never k early most total Able keeps starts =
    let s : Session = session_of script files in
    let run : Run = run_from s (new_run s) (take k rounds) in
    let first = track_plays script files 0 is enough.form is.track_count.0 in
    let many = near_costs script files 0 is.track_count.0 first in
    let n : ℕ = enough_rounds script - 50 in
    let m : Middle s run most total (portion_at s) (full_at s) n = middle_start script files is run most total n (omega (arith, many)) starts.carried starts.pipe starts.tracks in
    let long = length-drop k rounds in
    let ends = middle_ends s marks (scales_of s is) (length-map script.tracks spec_setting) is.normal.1 (sized s is) lawful most total (portion_at s) (full_at s) (λ i named. portion_of script files i is named) under Able keeps.two keeps.kept run (drop k rounds) n
    (later_legal false s marks k (new_run s) rounds legal) (omega (arith, long, count, many, early)) m starts.able in
    let few = ends.1 in
    never (k + ends.0) (omega (arith, few, many, early)) (subst (λ (r : Run). AllOver r.normal.tracks) (sym (run_later s k ends.0 (new_run s) rounds)) ends.2)
  where
    under : (i : ℕ) → i < track_count (session_of script files) → total i < (spec_of (session_of script files) i).base + 2 ^ 32
    under i named =
        let start = starts.tracks i named in
        let same = start.1 in
        let few = way_few script files i is enough named start.0 in
        omega (arith, same, few)
