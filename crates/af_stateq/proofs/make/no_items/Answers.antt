use Rattle.std.proofs.Common.{ℕ, ◌≡◌, List, [], ◌∷◌, ◌++◌, Option, None, replicate, arith, ap, ◌∙◌}
use Rattle.af_stateq.proofs.Common.{replicate-append-replicate}
use Rattle.af_stateq.proofs.make.no_items.Goals as goal

pub returns : goal.returns
returns g c =
    let e : c.loop-slot._slot ≡ 32 = omega arith in
    c.loop-slot.invariant.0 ∙ ap (λ (n : ℕ). replicate {A = Option g.row.P.Denot} n None) e

pub loop-slot-preserved : goal.loop-slot-preserved
loop-slot-preserved g c =
    (c.push_reserved.ensures.items ∙ ap (λ (xs : List (Option g.row.P.Denot)). xs ++ None ∷ []) c.loop-slot.invariant.0 ∙ replicate-append-replicate c.loop-slot._slot 1 None, omega arith)
