use Rattle.std.proofs.Common.{◌≡◌, take}
use Rattle.af_normal.proofs.plays.keep_frames.Given as goal

abbrev pub invariant-loop-frame : goal.invariant-loop-frame
invariant-loop-frame l = record {
  items : l.list.items ≡ take l.frame-index l.frames;
  room : l.list.room ≡ l.fn.list.room;
}
