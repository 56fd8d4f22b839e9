use Rattle.std.proofs.Common.{ℕ, ◌≡◌, List, [], ◌∷◌, ◌++◌, None, replicate, arith, ap, ◌∙◌}
use Rattle.af_stateq.proofs.Common.{replicate-append-replicate}
use Rattle.af_stateq.specs.declared.cell.Slot.{Slot}
use Rattle.af_stateq.proofs.make.table_slots.Goals as goal

pub returns : goal.returns
returns g c =
    let e : c.loop-slot._slot ≡ 36 = omega arith in
    c.loop-slot.invariant.0 ∙ ap (λ (n : ℕ). replicate {A = Slot g.row.P.Denot} n record { state = c.args.state; item = None }) e

pub loop-slot-preserved : goal.loop-slot-preserved
loop-slot-preserved g c =
    let one : Slot g.row.P.Denot = record { state = c.args.state; item = None } in
    (c.push_reserved.ensures.items ∙ ap (λ (xs : List (Slot g.row.P.Denot)). xs ++ one ∷ []) c.loop-slot.invariant.0 ∙ replicate-append-replicate c.loop-slot._slot 1 one, omega arith)
