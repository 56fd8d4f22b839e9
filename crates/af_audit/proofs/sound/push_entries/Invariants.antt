use Rattle.std.proofs.Common.{◌≡◌, ◌++◌, length, take}
use Rattle.af_audit.proofs.Common.{entries_pcm}
use Rattle.af_audit.proofs.sound.push_entries.Given as goal

abbrev pub invariant-loop-index : goal.invariant-loop-index
invariant-loop-index l = record {
  out : l.out.items ≡ l.fn.out.items ++ entries_pcm (length l.fn.buffer) l.log.frames (take l.index l.log.entries);
  buffer : length l.buffer ≡ length l.fn.buffer;
  sums : length l.sums ≡ length l.fn.buffer;
}
