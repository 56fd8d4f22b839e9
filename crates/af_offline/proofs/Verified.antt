-- What is found of a text's front is found of the text.
use Rattle.std.proofs.Common.{◌≡◌, ℕ, ◌-◌, ◌<◌, Bool, true, false, List, length, refl, ◌∙◌, arith, subst, sym}
use Rattle.af_offline.proofs.Common.{EndsBeyond, IsFrontOf, IsVerdict, JournalData, ScriptData, Verdict, judged_of, most_judged}
use Rattle.af_audit.specs.declared.verdict.Refusal.TheVariants as refused
use Rattle.af_audit.specs.declared.verdict.Verdict.TheVariants as verdict
use Rattle.af_offline.proofs.BeyondFault.{beyond_tells}
use Rattle.af_offline.proofs.FrontFault.{begins_fault}
use Rattle.af_journal.specs.declared.building.JournalFault.{JournalFault}
use Rattle.af_journal.specs.declared.building.JournalFault.TheVariants as fault
use Rattle.af_journal.specs.Readings.{IsFaultOf, IsOneReading}
use Rattle.af_offline.specs.Asked as asked
use Rattle.af_offline.specs.Verified.{IsJudgedIn, IsUnread, Tells, unread}

-- a text with this fault wasn't read
pub unread_told : (script : ScriptData) (text : List ℕ) (f : JournalFault) → IsFaultOf (length script.tracks) text f → IsUnread (unread f) script text
unread_told script text (fault.Line number) h = h
unread_told script text fault.Memory h = tt

-- what is found of the one reading of a text is what is found of the text
pub judged : (c : asked.JudgedCase) (found : Verdict) → ((journal : JournalData) × IsOneReading (length c.loaded.script.tracks) c.text journal × IsVerdict c.loaded.script c.loaded.files (judged_of journal) c.pcm found) → IsJudgedIn c found
judged c verdict.Legal h = h
judged c (verdict.Refused (refused.Text line)) h = absurd h.2
judged c (verdict.Refused (refused.Round round party)) h = h
judged c (verdict.Refused (refused.Pcm at)) h = h

-- what is found of a text's front is what is found of the text, if the front is enough
pub front_judged : (c : asked.JudgedCase) (whole : Bool) (front : JournalData) (found : Verdict) → IsFrontOf most_judged (length c.loaded.script.tracks) c.text whole front → Tells found whole (length front.rounds) → IsVerdict c.loaded.script c.loaded.files front c.pcm found → IsJudgedIn c found
front_judged c true front found f tells v =
    judged c found (f.reading, record { reads = f.reads; only = f.only }, subst (λ j. IsVerdict c.loaded.script c.loaded.files j c.pcm found) ((f.same refl).0 ∙ sym (f.same refl).1) v)
front_judged c false front verdict.Legal f tells v = absurd tells
front_judged c false front (verdict.Refused (refused.Text line)) f tells v = absurd tells
front_judged c false front (verdict.Refused (refused.Pcm at)) f tells v = absurd tells
front_judged c false front (verdict.Refused (refused.Round round party)) f tells v =
    let b = f.begins refl in
    (f.reading, record { reads = f.reads; only = f.only }, begins_fault c.loaded.script c.loaded.files front (judged_of f.reading) (length front.rounds - 1) round party b.first b.marks (omega (arith, tells)) v)

-- what is found of a front that ends behind a round at fault is what is found of the text
pub whole_judged : (c : asked.JudgedCase) (whole : Bool) (front : JournalData) (found : Verdict) → IsFrontOf most_judged (length c.loaded.script.tracks) c.text whole front → (whole ≡ false → EndsBeyond 16 64 front) → IsVerdict c.loaded.script c.loaded.files front c.pcm found → IsJudgedIn c found
whole_judged c true front found f beyond v = front_judged c true front found f tt v
whole_judged c false front found f beyond v = front_judged c false front found f (beyond_tells c.loaded.script c.loaded.files front c.pcm (beyond refl) found v) v
