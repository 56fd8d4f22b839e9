-- Basic lemmas that several files here, and of the crates above, cite.
use Rattle.std.proofs.Common.{List, [], ◌++◌, ◌+◌, ◌∷◌}
use Rattle.af_journal.proofs.Common.{AllByRecursion}
use Rattle.af_journal.specs.Lines.{Written}
use Rattle.af_journal.specs.Ranges.{IsWritten}

pub fit-append : (xs ys : List Written) → AllByRecursion IsWritten xs → AllByRecursion IsWritten ys → AllByRecursion IsWritten (xs ++ ys)
fit-append [] ys p q = q
fit-append (x ∷ xs) ys p q = (p.0, fit-append xs ys p.1 q)
