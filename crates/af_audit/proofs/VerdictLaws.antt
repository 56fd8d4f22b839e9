-- A right verdict is Legal exactly for a legal run and its sound.
use Rattle.std.specs.Prelude.{◌≡◌, ◌↔◌}
use Rattle.std.proofs.Common.{subst}
use Rattle.af_audit.proofs.Common.{Frame, IsLegalRun, JournalData, List, ScriptData, journal_pcm, ℕ}
use Rattle.af_audit.specs.declared.verdict.Verdict.{Verdict}
use Rattle.af_audit.specs.declared.verdict.Verdict.TheVariants.{Legal}
use Rattle.af_audit.proofs.Words.{MayBeJudged}
use Rattle.af_audit.specs.Verdicts.{IsVerdict}
use Rattle.af_audit.proofs.JudgedExactly.{legal_exactly}
use Rattle.af_audit.proofs.OneVerdict.{one_verdict}

pub legal_found : (script : ScriptData) (files : List (List Frame)) (j : JournalData) (pcm : List ℕ) (found : Verdict) → MayBeJudged script j → IsVerdict script files j pcm found → (found ≡ Legal) ↔ (IsLegalRun script files j × (pcm ≡ journal_pcm script.frames j))
legal_found script files j pcm found may is = (
  (λ e. (legal_exactly script files j pcm may).0 (subst (IsVerdict script files j pcm) e is)),
  (λ run. one_verdict script files j pcm found Legal is ((legal_exactly script files j pcm may).1 run)),
)
