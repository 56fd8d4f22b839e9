-- Basic lemmas that several files here, and of the crates above, cite.
use Rattle.std.proofs.Common.{List, ap, append_assoc, sym, ◌++◌, ◌∙◌}
use Rattle.af_cblk.proofs.Common.{ServerEvent}
use Rattle.af_cblk.specs.Rule.{StartsWith}

-- a list that goes on from one goes on from what that one goes on from
pub goes_on : (a b c : List ServerEvent) → StartsWith b a → StartsWith c b → StartsWith c a
goes_on a b c f g = (f.0 ++ g.0, sym (append_assoc a f.0 g.0) ∙ ap (λ (l : List ServerEvent). l ++ g.0) f.1 ∙ g.1)
