use Rattle.std.proofs.Common.{◌≡◌, ℕ, ◌<◌, slice_index_or}
use Rattle.af_judge.proofs.Common.{mix_scale}
use Rattle.af_judge.proofs.entry_judge.has_scales.Given as goal

abbrev pub invariant-loop-slot : goal.invariant-loop-slot
invariant-loop-slot l = (i : ℕ) → i < l.slot → slice_index_or l.entry.scales i 0 ≡ mix_scale l.state i
