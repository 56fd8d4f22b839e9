use Rattle.std.proofs.Common.{◌≡◌, ◌+◌, ◌-◌, ◌*◌, ◌≤◌, ◌++◌, drop, length}
use Rattle.af_journal.proofs.RowLines.{after_spaces}
use Rattle.af_journal.proofs.row.Row.put_words.Given as goal

abbrev pub invariant-loop-at : goal.invariant-loop-at
invariant-loop-at l = record {
  words : l.self ≡ after_spaces (drop (length l.words - l.at) l.words) ++ l.fn.self;
  size : length l.self ≤ length l.fn.self + 21 * l.at;
}
