use Rattle.std.proofs.Common.{◌≡◌, ◌-◌, ◌≤◌, ◌++◌, map, take}
use Rattle.af_fast.proofs.Common.{take_of}
use Rattle.af_fast.specs.Heard.{heard_takes}
use Rattle.af_fast.proofs.heard.add_all.Given as goal

abbrev pub invariant-loop-slot : goal.invariant-loop-slot
invariant-loop-slot l = record {
  few : l.heard ≤ l.slot;
  takes : map take_of (take l.heard l.parts) ++ heard_takes l.frames l.entry l.slot (l.used - l.slot) ≡ heard_takes l.frames l.entry 0 l.used;
}
