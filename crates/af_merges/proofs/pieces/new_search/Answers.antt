use Rattle.std.proofs.Common.{subst, sym}
use Rattle.af_merges.proofs.Common.{false≢true}
use Rattle.af_merges.specs.MergeSearch.{IsOnAnOrder}
use Rattle.af_merges.proofs.OneOrder.{order_first}
use Rattle.af_merges.proofs.pieces.new_search.Goals as goal

pub returns-clause-knows : goal.returns-clause-knows
returns-clause-knows c = record {
  frontier = λ k. absurd (false≢true k);
  bounds = λ k. absurd (false≢true k);
  there = λ k. absurd (false≢true k);
  end = subst (IsOnAnOrder _ c.args.from.now) (sym c.first_stage.ensures) (order_first _ c.args.from.now c.requires);
}
