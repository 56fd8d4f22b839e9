use Rattle.std.proofs.Common.{◌≡◌, vec_len}
use Rattle.af_block_tests.proofs.relay.numbered.Given as goal

abbrev pub invariant-loop-number : goal.invariant-loop-number
invariant-loop-number l = vec_len l.frames ≡ l.number
