use Rattle.std.proofs.Common.{◌≡◌, ◌++◌, ℕ, IfOk, List, MatchOption, Option, ap, subst, ◌∙◌}
use Rattle.af_side_by_side.proofs.Common.{LoggingState, Note, WriterState, accepted}
use Rattle.af_nblog.specs.LogText.{log_text}
use Rattle.af_side_by_side.specs.declared.logging.Logging.TheInside.{Inside}
use Rattle.af_side_by_side.proofs.logging.Logging.write.Goals as goal

pub returns-clause-written : goal.returns-clause-written
returns-clause-written c = λ frames room journal h.
    let done = c.finish.ensures frames room journal h in
    let notes : c.as_slice.result.now ≡ accepted h.ends.writer = c.as_slice.ensures ∙ ap (λ (y : Inside). y.auditor.notes.items) c.self-inside.view_is ∙ ap (λ (x : LoggingState). x.auditor.notes.items) c.self.view_is ∙ done.0 in
    let told = subst (λ (x : LoggingState). MatchOption x.scribe.end (c.refused-refused.result ≡ 0) (λ w. c.refused-refused.result ≡ w.refused)) c.self.view_is
    (subst (λ (y : Inside). MatchOption y.scribe.end (c.refused-refused.result ≡ 0) (λ w. c.refused-refused.result ≡ w.refused)) c.self-inside.view_is c.refused-refused.ensures) in
    let refused : c.refused-refused.result ≡ h.ends.writer.refused = subst (λ (o : Option WriterState). MatchOption o (c.refused-refused.result ≡ 0) (λ w. c.refused-refused.result ≡ w.refused)) done.1.1 told ∙ done.1.2 in
    subst (λ (x : List Note × ℕ). IfOk c.write.result (λ _. c.write.new.out.items ≡ c.args.text.now.items ++ log_text x.0 x.1)) (λ i. (notes i, refused i)) c.write.ensures.written
