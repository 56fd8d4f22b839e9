use Rattle.std.proofs.Common.{◌≡◌, ℕ, ◌<◌, ◌≤◌, length, replicate, true, slice_index_or}
use Rattle.af_fast.proofs.Common.{absent, is_mixed, mix_scale, mono_marks, slots}
use Rattle.af_fast.proofs.slots.mark_entry.Given as goal

abbrev pub invariant-loop-slot : goal.invariant-loop-slot
invariant-loop-slot l = record {
  low : 0 < l.slot;
  state : l.entry.state ≡ l.fn.entry.state;
  mixed : is_mixed l.entry.cycle ≡ true;
  absent_all : l.entry.slots ≡ replicate slots absent;
  whole : length l.entry.scales ≡ slots;
  scales : (i : ℕ) → i < l.slot → slice_index_or l.entry.scales i 0 ≡ mix_scale l.state i;
  unmarked : (i : ℕ) → l.slot ≤ i → i < slots → slice_index_or l.entry.scales i 0 ≡ 0;
  mono : l.entry.mono ≡ mono_marks l.state l.slot;
}
