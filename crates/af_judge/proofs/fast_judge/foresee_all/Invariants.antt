use Rattle.std.proofs.Common.{◌≡◌, List, drop, map, take}
use Rattle.af_judge.proofs.Common.{Listed}
use Rattle.af_judge.specs.Foresight.{entries_foreseen, foreseen, server_of}
use Rattle.af_judge.proofs.fast_judge.foresee_all.Given as goal

abbrev pub invariant-loop-at : goal.invariant-loop-at
invariant-loop-at l = record {
  servers : (ss : List Listed) → l.fn.servers ≡ map server_of ss → l.servers ≡ map server_of (entries_foreseen l.states (take l.at (drop l.later.first l.log.entries)) (foreseen ss l.fn.told)).servers;
  told : (ss : List Listed) → l.fn.servers ≡ map server_of ss → l.told ≡ (entries_foreseen l.states (take l.at (drop l.later.first l.log.entries)) (foreseen ss l.fn.told)).told;
}
