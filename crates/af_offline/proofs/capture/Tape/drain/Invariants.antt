use Rattle.std.proofs.Common.{◌≡◌, length}
use Rattle.af_offline.specs.Captured.{state_of, IsTape}
use Rattle.af_offline.specs.Recorded.{frames_heard}
use Rattle.af_offline.proofs.capture.Tape.drain.Given as goal

abbrev pub invariant-loop-count : goal.invariant-loop-count
invariant-loop-count l = record {
  tape : IsTape l.sizes l.self;
  heard_is : frames_heard (state_of l.self) ≡ frames_heard (state_of l.fn.self);
  lost : l.self.lost ≡ l.fn.self.lost;
  supplied : l.self.hand.supplied ≡ l.fn.self.hand.supplied;
}

abbrev pub decreases-loop-count : goal.decreases-loop-count
decreases-loop-count l = length l.self.hand.queued
