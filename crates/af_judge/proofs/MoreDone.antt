-- A server that does some events and then some more does all of them.
use Rattle.std.proofs.Common.{◌≡◌, List, ◌++◌, ap, append_assoc}
use Rattle.af_judge.proofs.Common.{Listed, ServerEvent}
use Rattle.af_judge.specs.Foresight.{did_more}

pub more_done : (xs ys : List ServerEvent) (s : Listed) → did_more ys (did_more xs s) ≡ did_more (xs ++ ys) s
more_done xs ys s = ap (λ (l : List ServerEvent). let k : Listed = record s { events = l } in k) (append_assoc s.events xs ys)
