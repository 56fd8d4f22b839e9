use Rattle.std.proofs.Common.{◌+◌, ◌*◌, ◌≤◌, ◌<◌, length}
use Rattle.af_fast.proofs.Common.{InOrder, tracks_below}
use Rattle.af_fast.specs.Fits.{stream_fits}
use Rattle.af_fast.specs.Slots.{PlayedTo, SameEntries}
use Rattle.af_fast.proofs.slots.play_slots.Given as goal

abbrev pub invariant-loop-slot : goal.invariant-loop-slot
invariant-loop-slot g l = record {
  low : 0 < l.slot;
  played : PlayedTo (length l.fn.buffer) l.fn.observer.past.state (length l.fn.log.frames) l.fn.observer l.observer l.initial.log.frames l.log.frames l.initial.entry l.entry l.slot;
  order : InOrder stream_fits l.observer;
  log_is : SameEntries l.fn.log l.log;
  stepped : l.steps ≤ l.fn.steps + (length l.fn.buffer + 3) + tracks_below l.fn.observer.past.state l.slot * (length l.fn.buffer + 7);
}
