use Rattle.std.proofs.Common.{◌≡◌, ℕ, List, ◌++◌, length}
use Rattle.af_stateq.proofs.Common.{slots}
use Rattle.af_stateq.specs.declared.cell.Slot.{Slot}
use Rattle.af_stateq.specs.Shelved.{shelves}
use Rattle.af_stateq.proofs.Exchanges.{Exchanged}
use Rattle.af_stateq.proofs.shelves.exchange.Given as goal

abbrev pub invariant-loop-i : goal.invariant-loop-i
invariant-loop-i g l =
    (length l.items.items ≡ slots) × (l.seat.table_id ≡ l.fn.seat.table_id) × (l.seat.id ≡ l.fn.seat.id) × (l.seat.me.0 ≡ l.fn.seat.me.0)
    × ((xs : List (Slot g.row.P.Denot)) (cs : List (ℕ × Slot g.row.P.Denot)) → length xs ≡ slots → l.fn.seat.me.1 ≡ shelves xs ++ cs → Exchanged l.fn.items.items l.i xs cs l.seat.me.1 l.items.items)
