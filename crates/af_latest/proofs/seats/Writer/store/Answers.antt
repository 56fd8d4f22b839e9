use Rattle.std.proofs.Common.{rules, ◌∷◌, refl, ap, sym}
use Rattle.atomic_table.specs.Table.{rest}
use Rattle.af_latest.proofs.Steps.{stores_at}
use Rattle.af_latest.proofs.seats.Writer.store.Goals as goal

pub swap-word-requires : goal.swap-word-requires
swap-word-requires g c = let i = c.self.invariant in (
  search rules,
  search rules,
  stores_at _ _ _ _ _ c.self.inside.slot c.args.value.now i.0 (ap (λ l. (c.self.inside.slot, c.args.value.now) ∷ rest l) i.5.1) (sym i.3) refl,
)
