use Rattle.std.proofs.Common.{◌≡◌, ◌++◌, ◌∙◌, ap, sym}
use Rattle.af_journal.proofs.Common.{append-nil, contents_after_writes}
use Rattle.af_journal.specs.Lines.{line_text, with_lf}
use Rattle.af_journal.specs.declared.text.Text.{Text}
use Rattle.af_journal.proofs.text.add_printed.Goals as goal

pub returns-in-Ok : goal.returns-in-Ok
returns-in-Ok c = let before = c.args.text.now.bytes.items in let line = with_lf (line_text c.args.line) in
    let written : c.writeln.new.self.bytes.items ≡ before ++ line = contents_after_writes _ (λ (t : Text). t.bytes.items) (λ _ _ _ e. e) _ _ _ c.in-Ok.ensures.writes in
    written ∙ ap (λ l. before ++ l) (sym (append-nil line))
