use Rattle.std.proofs.Common.{◌∙◌, sym}
use Rattle.af_words.proofs.DrawnNames.{first_free}
use Rattle.af_words.proofs.words.free_names.Goals as goal

pub returns-clause-free : goal.returns-clause-free
returns-clause-free c = first_free (λ p. p.0.now) (λ p. p.1.now) c.two_names.result c.args.first.now c.args.second.now c.two_names.ensures (sym c.is_drawn.ensures ∙ c.if-is_drawn.false)
