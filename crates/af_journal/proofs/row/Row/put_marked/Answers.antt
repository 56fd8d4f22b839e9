use Rattle.std.proofs.Common.{ℕ, List, ◌∷◌, ◌++◌, ap, ◌∙◌}
use Rattle.af_journal.proofs.RowLines.{after_spaces, marked-is}
use Rattle.af_journal.proofs.row.Row.put_marked.Goals as goal

pub returns : goal.returns
returns c =
    let ns = c.args.words.now in
    c.put.ensures ∙ (ap (λ (l : List ℕ). c.args.mark ∷ l) (c.put_words.ensures.words ∙ ap (λ (l : List ℕ). after_spaces ns ++ l) c.requires.line) ∙ marked-is c.args.mark ns)
