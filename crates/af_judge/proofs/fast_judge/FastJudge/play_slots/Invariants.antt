-- the slots before this one are played
use Rattle.std.proofs.Common.{◌≡◌, ◌↔◌}
use Rattle.af_judge.proofs.Common.{IsTrue}
use Rattle.af_judge.specs.FastKept.{AreSlotsRight, slots_played}
use Rattle.af_judge.proofs.fast_judge.FastJudge.play_slots.Given as goal

abbrev pub invariant-loop-slot : goal.invariant-loop-slot
invariant-loop-slot l = record {
  played : l.tracks ≡ slots_played l.self.told.asked l.state l.log.frames l.entry l.slot l.fn.tracks;
  right : IsTrue l.right ↔ AreSlotsRight l.self.told.asked l.state l.log.frames l.entry l.slot l.fn.tracks;
}
