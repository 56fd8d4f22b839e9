-- Words that lemmas alone speak of.
use Rattle.std.specs.Prelude.{◌-◌, Option, Some, None, ◌≡◌, ◌↔◌, ℕ, ◌<◌, true, List, length, max, fold, ◌+◌, Bool, false, IsTrue}
use Rattle.af_base.specs.Turn.{Turn}
use Rattle.af_judge.specs.ReportKept.{ReportKept}
use Rattle.af_audit.specs.RoundTold.{report_turned}
use Rattle.af_base.specs.declared.frame.Frame.{Frame}
use Rattle.af_model.specs.JournalForm.{IsJournal}
use Rattle.af_model.specs.Journals.{JournalData, RoundSeen}
use Rattle.af_script.specs.Data.{ScriptData}
use Rattle.af_audit.specs.declared.verdict.Verdict.{Verdict}
use Rattle.af_audit.specs.declared.verdict.Verdict.TheVariants.{Legal}
use Rattle.af_runs.specs.LegalRuns.{session_of, run_of, IsLegalRun, HasLegalRounds}
use Rattle.af_runs.specs.Pcm.{journal_pcm}
use Rattle.af_runs.specs.Runs.{all_ended, Run, calls_in, sides_of, told_at}
use Rattle.af_audit.specs.Verdicts.{IsVerdict}
use Rattle.af_base.specs.declared.event.ServerEvent.{ServerEvent}
use Rattle.af_model.specs.declared.shape.Shape.{Shape}
use Rattle.af_model.specs.ServerCalls.{flushes_by}
use Rattle.af_runs.specs.ClientTurns.{LegalClientTurn}
use Rattle.af_audit.specs.declared.run_judge.Found.{Found}
use Rattle.af_audit.specs.RunKept.{LeastBelow}
use Rattle.af_base.specs.declared.event.ServerEvent.TheVariants as server

-- the most flushes that were seen, after one more event
abbrev pub sees_more : Shape → ℕ → ServerEvent → ℕ
sees_more k most (server.SawFlush flush) = max most (flushes_by k.wrap flush)
sees_more k most _ = most

-- the most flushes that any look of these events saw
abbrev pub most_seen : Shape → List ServerEvent → ℕ
most_seen k events = fold (sees_more k) 0 events

-- the report's cell after the turn of a round, if the round has one
abbrev pub loaded_if : Option Turn → ReportKept → ReportKept
loaded_if None r = r
loaded_if (Some e) r = report_turned e r

-- What is found says which party is clear: a client is if the round isn't behind the end of all parties, its turn is legal and what is found of its blocks is right. Each mixer is judged if all parties before it are clear
pub record FindsFaults (Clear Turn Met : ℕ → Type 0) (over : Bool) (tracks : ℕ) (f : Found) : Type 0 where
  pub behind : over ≡ true → Clear 0 → ⊥
  pub going : over ≡ false → (p : ℕ) → p < tracks → Turn p → Met p → Clear p
  pub turn : (p : ℕ) → p < tracks → Clear p → Turn p
  pub met : (p : ℕ) → p < tracks → Clear p → Met p
  pub caller_is : LeastBelow Turn tracks f.caller
  pub met_is : LeastBelow Met tracks f.met
  pub normal_is : ((p : ℕ) → p < tracks → Clear p) → IsTrue f.normal ↔ Clear tracks
  pub fast_is : ((p : ℕ) → p < tracks + 1 → Clear p) → IsTrue f.fast ↔ Clear (tracks + 1)

-- the turn of a track's client in a round is a legal one
abbrev pub IsLegalCaller : Run → RoundSeen → ℕ → Type 0
IsLegalCaller run round i = LegalClientTurn (sides_of (told_at run i)) (calls_in round i)

-- a party found behind all rounds, with the number of rounds
abbrev pub at_end : ℕ → Option ℕ → Option (ℕ × ℕ)
at_end rounds None = None
at_end rounds (Some party) = Some (rounds, party)

-- a journal of the script's tracks, of which there is at least one
pub record MayBeJudged (script : ScriptData) (j : JournalData) : Type 0 where
  pub tracks : j.tracks ≡ length script.tracks
  pub some : 0 < length script.tracks
  pub form : IsJournal j

-- the verdict is Legal exactly for a legal run and its PCM
abbrev pub LegalExactly : ScriptData → List (List Frame) → JournalData → List ℕ → Type 0
LegalExactly script files j pcm = MayBeJudged script j → IsVerdict script files j pcm Legal ↔ (IsLegalRun script files j × (pcm ≡ journal_pcm script.frames j))

-- there is no second right verdict
abbrev pub OneVerdict : ScriptData → List (List Frame) → JournalData → List ℕ → Type 0
OneVerdict script files j pcm = (a b : Verdict) → IsVerdict script files j pcm a → IsVerdict script files j pcm b → a ≡ b

-- a run so far in which all parties have ended is a legal run
abbrev pub LegalAtTheEnd : ScriptData → List (List Frame) → JournalData → Type 0
LegalAtTheEnd script files j = HasLegalRounds true script files j → all_ended (session_of script files) (run_of script files j) ≡ true → IsLegalRun script files j
