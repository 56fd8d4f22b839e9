use Rattle.std.proofs.Common.{ℕ, ◌<◌, ◌≤◌, slice_index_or}
use Rattle.af_audit.proofs.Common.{count_seen, entry_slot}
use Rattle.af_audit.proofs.sound.is_fit.Given as goal

abbrev pub invariant-loop-slot : goal.invariant-loop-slot
invariant-loop-slot l = record {
  within : (i : ℕ) → i < l.slot → count_seen (entry_slot l.entry i).seen ≤ l.asked;
  scaled : (i : ℕ) → i < l.slot → slice_index_or l.entry.scales i 0 ≤ 4096;
}
