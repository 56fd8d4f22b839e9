use Rattle.std.proofs.Common.{◌≡◌, ◌⊎◌, inl, inr, ℕ, ◌+◌, ◌<◌, ◌^◌, slice_index_or, subst, sym, arith, rules}
use Rattle.af_model.proofs.Common.{CycleEntry, cases_eq, entry_slot}
use Rattle.af_model.specs.Numbers.{FitsSlot}
use Rattle.af_model.proofs.numbers.know_entry.Goals as goal

abbrev Fits : CycleEntry → ℕ → Type 0
Fits entry k = FitsSlot (entry_slot entry k) × (slice_index_or entry.scales k 0 < 2 ^ 16)

pub loop-i-preserved : goal.loop-i-preserved
loop-i-preserved c k below = by (cases_eq k c.loop-i.i)
  where
    here : Fits c.args.entry.now c.loop-i.i
    here = search rules

    by : (k ≡ c.loop-i.i) ⊎ (k ≡ c.loop-i.i → ⊥) → Fits c.args.entry.now k
    by (inl same) = subst (Fits c.args.entry.now) (sym same) here
    by (inr other) = c.loop-i.invariant k (omega (arith, below, other))

pub returns : goal.returns
returns c = record {
  state = c.know_number.ensures;
  looks = (λ i lt. (c.loop-i.invariant i (omega (arith, lt, c.loop-i-test.false))).0);
  scales = (λ i lt. (c.loop-i.invariant i (omega (arith, lt, c.loop-i-test.false))).1);
}
