use Rattle.std.proofs.Common.{◌≡◌, ◌≤◌, ◌++◌, length, take}
use Rattle.af_base.specs.Sample.{pcm_bytes}
use Rattle.af_io.proofs.pcm.push_blocks.Given as goal

abbrev pub invariant-loop-rest : goal.invariant-loop-rest
invariant-loop-rest l = record {
  written : l.out.items ++ pcm_bytes l.rest ≡ l.initial.out.items ++ pcm_bytes l.frames;
  longer : length l.initial.out.items ≤ length l.out.items;
  kept : take (length l.initial.out.items) l.out.items ≡ l.initial.out.items;
}

abbrev pub decreases-loop-rest : goal.decreases-loop-rest
decreases-loop-rest l = length l.rest
