-- A journal alone is judged exactly: as that of a legal run, or as that of a cut one.
use Rattle.std.specs.Prelude.{◌≡◌, ◌↔◌, ◌<◌, ◌∷◌}
use Rattle.std.proofs.Common.{arith, subst, sym, true≢false}
use Rattle.af_audit.proofs.Common.{Bool, Frame, IsCutRun, IsLegalRun, IsTrue, JournalData, LegalRounds, List, Marks, RoundSeen, Run, ScriptData, Session, [], after_round, false, length, marks_of, new_run, run_from, session_of, suc, track_count, true, zero, ℕ}
use Rattle.af_audit.proofs.Words.{MayBeJudged}
use Rattle.af_audit.specs.Verdicts.{AllBefore, IsFirstFault, IsRun, MayEnd}
use Rattle.af_audit.proofs.JudgedExactly.{round_clear, round_legal}

-- rounds in which every party is clear are legal
rounds_legal : (cut : Bool) (s : Session) (marks : Marks) (run : Run) (rounds : List RoundSeen) → 0 < track_count s → AllBefore cut s marks run rounds → LegalRounds cut s marks run rounds
rounds_legal cut s marks run [] some clear = tt
rounds_legal cut s marks run (round ∷ rounds) some clear = (round_legal cut s marks run round some clear.0, rounds_legal cut s marks (after_round s run round) rounds some clear.1)

-- rounds one of which has a fault aren't legal
not_legal : (cut : Bool) (s : Session) (marks : Marks) (run : Run) (rounds : List RoundSeen) (number party : ℕ) → number < length rounds → IsFirstFault cut s marks run rounds number party → LegalRounds cut s marks run rounds → ⊥
not_legal cut s marks run [] number party lt fault legal = absurd (omega (arith, lt))
not_legal cut s marks run (round ∷ rounds) zero party lt fault legal = fault.fails (round_clear cut s marks run round legal.0 party)
not_legal cut s marks run (round ∷ rounds) (suc number) party lt fault legal = not_legal cut s marks (after_round s run round) rounds number party (omega (arith, lt)) fault.1 legal.1

module _ (cut : Bool) (s : Session) (marks : Marks) (run : Run) (rounds : List RoundSeen) where
  -- rounds with a fault are no run
  pub no_run : (number party : ℕ) → number < length rounds → IsFirstFault cut s marks run rounds number party → IsTrue false ↔ IsRun cut s marks run rounds
  no_run number party lt fault = ((λ yes. absurd (true≢false (sym yes))), (λ is. absurd (not_legal cut s marks run rounds number party lt fault is.0)))

  -- rounds without a fault are a run exactly if it may end after them
  pub is_run : (answer : Bool) → 0 < track_count s → AllBefore cut s marks run rounds → IsTrue answer ↔ MayEnd cut s (run_from s run rounds) → IsTrue answer ↔ IsRun cut s marks run rounds
  is_run answer some clear ends = ((λ h. (rounds_legal cut s marks run rounds some clear, ends.0 h)), (λ is. ends.1 is.1))

module _ (cut : Bool) (script : ScriptData) (files : List (List Frame)) (j : JournalData) (answer : Bool) (may : MayBeJudged script j) (judged : (let s = session_of script files in IsTrue answer ↔ IsRun cut s (marks_of j.rounds) (new_run s) j.rounds)) where
  abbrev IsIt : Bool → Type 0
  IsIt c = let s = session_of script files in IsTrue answer ↔ IsRun c s (marks_of j.rounds) (new_run s) j.rounds

  -- if `cut` is false, the answer is yes exactly for a legal run
  pub legal_judged : cut ≡ false → IsTrue answer ↔ IsLegalRun script files j
  legal_judged is =
      let h = subst IsIt is judged in (
        (λ yes. record { rounds = record { tracks = may.tracks; form = may.form; rounds = (h.0 yes).0 }; ends = (h.0 yes).1 }),
        (λ run. h.1 (run.rounds.rounds, run.ends)),
      )

  -- if `cut` is true, the answer is yes exactly for a cut run
  pub cut_judged : cut ≡ true → IsTrue answer ↔ IsCutRun script files j
  cut_judged is =
      let h = subst IsIt is judged in (
        (λ yes. record { rounds = record { tracks = may.tracks; form = may.form; rounds = (h.0 yes).0 }; full = (h.0 yes).1.0; going = (h.0 yes).1.1 }),
        (λ run. h.1 (run.rounds.rounds, (run.full, run.going))),
      )
