use Rattle.std.proofs.Common.{◌≡◌, ◌-◌, ◌≤◌, ◌++◌, map, take}
use Rattle.af_audit.proofs.Common.{slots, take_of}
use Rattle.af_audit.specs.HeardTakes.{heard_takes}
use Rattle.af_audit.proofs.entry_mix.mix_heard.Given as goal

abbrev pub invariant-loop-slot : goal.invariant-loop-slot
invariant-loop-slot l = record {
  few : l.heard ≤ l.slot;
  takes : map take_of (take l.heard l.parts) ++ heard_takes l.frames l.entry l.slot (slots - l.slot) ≡ heard_takes l.frames l.entry 0 slots;
}
