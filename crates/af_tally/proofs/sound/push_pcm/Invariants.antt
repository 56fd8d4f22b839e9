use Rattle.std.proofs.Common.{◌≡◌, ◌+◌, ◌*◌, ◌++◌, length, take}
use Rattle.af_base.specs.Sample.{pcm_bytes}
use Rattle.af_tally.proofs.sound.push_pcm.Given as goal

abbrev pub invariant-loop-frame : goal.invariant-loop-frame
invariant-loop-frame l = record {
  items : l.bytes.items ≡ l.initial.bytes.items ++ pcm_bytes (take l.frame-index l.frames);
  room : l.bytes.room ≡ l.initial.bytes.room;
  long : length l.bytes.items ≡ length l.initial.bytes.items + 4 * l.frame-index;
}
