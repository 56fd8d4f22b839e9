use Rattle.std.proofs.Common.{◌≡◌, ◌+◌, length, map}
use Rattle.af_offline.proofs.Common.{packed_word}
use Rattle.af_offline.specs.Captured.{state_of, IsTape}
use Rattle.af_offline.specs.Recorded.{periods}
use Rattle.af_offline.proofs.Taped.{IsOn}
use Rattle.af_offline.proofs.capture.Tape.supply_all.Given as goal

abbrev pub invariant-loop-rest : goal.invariant-loop-rest
invariant-loop-rest l = record {
  tape : IsTape l.sizes l.self;
  on : IsOn l.sizes (map packed_word l.rest) (state_of l.self) (periods l.sizes (length l.fn.frames) (map packed_word l.fn.frames) (state_of l.fn.self));
  supplied : l.self.hand.supplied + length l.rest ≡ l.fn.self.hand.supplied + length l.fn.frames;
}

abbrev pub decreases-loop-rest : goal.decreases-loop-rest
decreases-loop-rest l = length l.rest
