use Rattle.std.proofs.Common.{◌≡◌, ◌≤◌, ◌++◌, ℕ, List, refl, sym, ◌∙◌}
use Rattle.af_playing.proofs.Common.{HasLogOf, IsLogOf, Played}
use Rattle.af_nblog.specs.declared.entries.Note.{Note}
use Rattle.af_nblog.specs.LogText.{log_text}
use Rattle.af_nblog.specs.NoteEnds.{accepted}
use Rattle.af_playing.proofs.PlayAnswers.{if_err_always, none_err, none_ok, ok_when, on_err_from, on_ok_from, when_ok}
use Rattle.af_playing.proofs.play_of_all.tell.Goals as goal

pub write-requires : goal.write-requires
write-requires c =
    let told = when_ok (λ (p : Played). (frames : ℕ) × (room : ℕ) × HasLogOf frames room p.journal c.args.logging.now) c.args.played.now (sym c.is_err.ensures.value ∙ c.if-is_err.false) c.requires.told in
    record { told = (told.2.0, told.2.1, told.0.journal, told.2.2) }

pub returns-then-is_err-clause-log : goal.returns-then-is_err-clause-log
returns-then-is_err-clause-log c = λ frames room log. none_ok _ c.args.played.now (sym c.is_err.ensures.value ∙ c.if-is_err.true)

pub returns-then-is_err-clause-none : goal.returns-then-is_err-clause-none
returns-then-is_err-clause-none c = if_err_always _ c.args.played.now refl

pub returns-clause-log : goal.returns-clause-log
returns-clause-log c = λ frames room log.
    let held = c.args.text.now.items in
    let told = when_ok (λ (p : Played). HasLogOf frames room p.journal c.args.logging.now) c.args.played.now (sym c.is_err.ensures.value ∙ c.if-is_err.false) log in
    let h = told.2 in
    on_ok_from (c.write.new.text.items ≡ held ++ log_text (accepted h.ends.writer) h.ends.writer.refused) _ c.write.result
    (λ wrote. ok_when (λ (p : Played). (notes : List Note) × (refused : ℕ) × IsLogOf frames room p.journal notes refused × (c.write.new.text.items ≡ held ++ log_text notes refused) × (32 ≤ room → refused ≡ 0)) c.args.played.now told.0 told.1
    (accepted h.ends.writer, h.ends.writer.refused, h.is_log, wrote, h.none))
    (c.write.ensures.written frames room told.0.journal h)

pub returns-clause-none : goal.returns-clause-none
returns-clause-none c = none_err _ c.args.played.now (sym c.is_err.ensures.value ∙ c.if-is_err.false)

pub returns-clause-memory : goal.returns-clause-memory
returns-clause-memory c = on_err_from _ c.write.result (none_err (λ _. ⊥) c.args.played.now (sym c.is_err.ensures.value ∙ c.if-is_err.false))
