-- The two files of a play in which all parties have ended are found legal.
use Rattle.std.proofs.Common.{◌≡◌, ℕ, ◌<◌, true, List, length, refl, ap, ◌∙◌, sym, subst}
use Rattle.af_commands.proofs.Common.{Frame, IsOneReading, JournalData, ScriptData}
use Rattle.af_audit.specs.Verdicts.{IsVerdict}
use Rattle.af_audit.specs.declared.verdict.Refusal.TheVariants as refused
use Rattle.af_audit.specs.declared.verdict.Verdict.{Verdict}
use Rattle.af_audit.specs.declared.verdict.Verdict.TheVariants.{Legal, Refused}
use Rattle.af_audit.proofs.JudgedExactly.{legal_exactly}
use Rattle.af_audit.proofs.OneVerdict.{one_verdict}
use Rattle.af_journal.specs.Judged.{judged_of}
use Rattle.af_offline.proofs.BeyondFault.{legal_judged}
use Rattle.af_commands.specs.Plays.{IsPlay}
use Rattle.af_commands.specs.PlaysJudged.{IsFoundLegal, PlayIsFoundLegal}
use Rattle.af_offline.specs.Verified.{IsJudged}

module _ (script : ScriptData) (files : List (List Frame)) (bytes text line : List ℕ) (some : 0 < length script.tracks) (play : IsPlay true script files bytes text line) where
  -- the journal of the play is that of a legal run with this sound
  legal : IsVerdict script files play.journal bytes Legal
  legal = (legal_exactly script files play.journal bytes (record { tracks = play.read.reads.0.tracks_are; some = some; form = play.legal.legal.rounds.form })).1 (play.legal.legal, play.bytes_are)

  -- all of the journal is judged
  whole : judged_of play.journal ≡ play.journal
  whole = legal_judged script files play.journal legal.0

  -- what is found of the reading of the text is found of its journal
  same_found : (found : Verdict) → ((journal : JournalData) × IsOneReading (length script.tracks) text journal × IsVerdict script files (judged_of journal) bytes found) → found ≡ Legal
  same_found found (journal, reads, verdict) =
      one_verdict script files play.journal bytes found Legal (subst (λ (j : JournalData). IsVerdict script files j bytes found) (ap judged_of (play.read.only journal reads.reads) ∙ whole) verdict) legal

  only : (found : Verdict) → IsJudged script files bytes text found → found ≡ Legal
  only Legal judged = refl
  only (Refused (refused.Text number)) bad = absurd (bad.none (play.journal, play.read.reads))
  only (Refused (refused.Round round party)) judged = same_found (Refused (refused.Round round party)) judged
  only (Refused (refused.Pcm at)) judged = same_found (Refused (refused.Pcm at)) judged

  found_legal : IsFoundLegal script files bytes text
  found_legal = record { legal = (play.journal, play.read, subst (λ (j : JournalData). IsVerdict script files j bytes Legal) (sym whole) legal); only = only }

pub play_found_legal : (script : ScriptData) (files : List (List Frame)) (bytes text line : List ℕ) → PlayIsFoundLegal script files bytes text line
play_found_legal script files bytes text line some play = found_legal script files bytes text line some play
