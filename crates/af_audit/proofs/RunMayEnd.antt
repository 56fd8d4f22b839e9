-- By what is kept of it a run may end exactly if it may.
use Rattle.std.specs.Prelude.{◌≡◌, ◌↔◌, ◌+◌, ◌==◌}
use Rattle.std.proofs.Common.{ap, sym, ◌∙◌}
use Rattle.af_audit.proofs.Common.{Bool, IsTrue, List, Marks, NormalKept, Option, Report, Run, Session, TrackJudge, all_ended, equal_is, false, is_equal, is_some, length, not, not_true, true, ℕ}
use Rattle.af_audit.specs.declared.run_judge.RunJudge.{RunJudge}
use Rattle.af_audit.specs.RunKept.{KeepsRun, LeastBelow, party_ended}
use Rattle.af_audit.specs.Verdicts.{MayEnd}
use Rattle.af_audit.proofs.PartiesEnded.{all_is, none_of}

goes_on : (b : Bool) → b ≡ false → not b ≡ true
goes_on b h = ap not h

module _ (s : Session) (marks : Marks) (j : RunJudge) (tracks : List TrackJudge) (run : Run) (keeps : KeepsRun s marks j tracks run) (found : Option ℕ) (over : Bool) (least : LeastBelow (λ p. party_ended j tracks p ≡ true) (length tracks + 2) found) (over_is : is_some found ≡ not over) where
  over-so : all_ended s run ≡ over
  over-so = all_is s marks j tracks run keeps.of_tracks (ap (λ (m : NormalKept). m.ended) keeps.normal.kept) keeps.fast.ended found least ∙ sym (none_of found over over_is)

  told-so : j.fast.told.report.cycle ≡ length run.entries
  told-so = ap (λ (r : Report). r.cycle) keeps.fast.report ∙ keeps.fast.numbered.cycle

  -- a run may end if all parties have ended
  pub whole_ends : IsTrue over ↔ MayEnd false s run
  whole_ends = ((λ h. over-so ∙ h), (λ h. sym over-so ∙ h))

  -- a run may end cut off if the log is full and some party hasn't ended
  pub cut_ends : (count : ℕ) (answer : Bool) → count ≡ j.fast.told.report.cycle → IsTrue answer ↔ (IsTrue (count == j.cycles) × IsTrue (not over)) → IsTrue answer ↔ MayEnd true s run
  cut_ends count answer count_is both = (
    (λ h. let b = both.0 h in (sym (count_is ∙ told-so) ∙ (equal_is count j.cycles b.0 ∙ keeps.cycles), over-so ∙ not_true over b.1)),
    (λ h. both.1 (is_equal count j.cycles ((count_is ∙ told-so) ∙ (h.0 ∙ sym keeps.cycles)), goes_on over (sym over-so ∙ h.1))),
  )
