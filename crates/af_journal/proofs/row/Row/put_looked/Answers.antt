use Rattle.std.proofs.Common.{ℕ, List, ◌∷◌, ◌++◌, ap, ◌∙◌}
use Rattle.af_journal.specs.Lines.{seen_text}
use Rattle.af_journal.proofs.RowLines.{after_spaces, looked-is}
use Rattle.af_journal.proofs.row.Row.put_looked.Goals as goal

pub returns : goal.returns
returns c =
    let ns = c.args.words.now in
    let shown = c.put_seen.ensures.seen ∙ ap (λ (l : List ℕ). 32 ∷ seen_text c.args.seen ++ l) c.requires.line in
    c.put.ensures ∙ (ap (λ (l : List ℕ). c.args.mark ∷ l) (c.put_words.ensures.words ∙ ap (λ (l : List ℕ). after_spaces ns ++ l) shown) ∙ looked-is c.args.mark ns c.args.seen)
