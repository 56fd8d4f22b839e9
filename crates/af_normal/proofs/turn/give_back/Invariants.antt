use Rattle.std.proofs.Common.{◌≡◌, ◌+◌, ◌++◌, length, reverse, take, drop}
use Rattle.af_normal.proofs.turn.give_back.Given as goal

abbrev pub invariant-loop-moved : goal.invariant-loop-moved
invariant-loop-moved g l = record {
  from : l.from ≡ record l.fn.from { items = l.from.items };
  to : l.to ≡ record l.fn.to { items = l.to.items };
  front : take (length l.fn.to.items) l.to.items ≡ l.fn.to.items;
  rest : l.from.items ++ reverse (drop (length l.fn.to.items) l.to.items) ≡ l.fn.from.items;
  left : length l.from.items + l._moved ≡ length l.fn.from.items;
  long : length l.to.items ≡ length l.fn.to.items + l._moved;
}
