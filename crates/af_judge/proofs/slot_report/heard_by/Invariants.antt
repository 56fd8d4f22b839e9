use Rattle.std.proofs.Common.{◌≡◌, ℕ, ◌<◌, List, length, map, slice_index_or}
use Rattle.af_judge.proofs.Common.{Listed, known_by, nothing_heard, slot_of, slots}
use Rattle.af_judge.specs.Foresight.{server_in, server_of}
use Rattle.af_judge.proofs.slot_report.heard_by.Given as goal

abbrev pub invariant-loop-slot : goal.invariant-loop-slot
invariant-loop-slot l = record {
  long : length l.heard ≡ slots;
  each : (ss : List Listed) → l.servers ≡ map server_of ss → (i : ℕ) → i < l.slot → slice_index_or l.heard i nothing_heard ≡ known_by (server_in ss (slot_of l.state i).track);
}
