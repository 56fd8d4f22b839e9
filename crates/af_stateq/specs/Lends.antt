-- What an observer ends as, once a `&mut` to an item of it has ended.
use Rattle.std.specs.Prelude.{ℕ, Option, Some, slice_set}
use Rattle.std.specs.Borrow.{LendsIf, Fml, RattleType, MutBor}
use Rattle.af_stateq.specs.declared.rule.Fits.{Ghosts}
use Rattle.af_stateq.specs.Observes.{Observes}
use Rattle.af_stateq.specs.contracts.observer.Observer.{the_row}

module _ (P N K : RattleType) (g : Ghosts N.Denot P.Denot K.Denot) (o : MutBor (Observes P.Denot K.Denot)) where
  -- the item of the slot is the last value written through r, and at `None` the observer stays as it is
  abbrev pub lends_item : ℕ → Option (MutBor P.Denot) → Fml
  lends_item slot r = LendsIf (the_row P N K g) P o r (λ w. record o.now { items = slice_set o.now.items slot (Some w) }) o.now
