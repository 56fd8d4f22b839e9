use Rattle.std.proofs.Common.{◌≡◌, take, length}
use Rattle.af_life.proofs.Common.{fold, max}
use Rattle.af_life.proofs.plain.longest.Given as goal

abbrev pub invariant-loop-seen : goal.invariant-loop-seen
invariant-loop-seen l = l.most ≡ fold (λ most seen. max most (length seen.looks.items)) 0 (take l.seen-index l.turns)
