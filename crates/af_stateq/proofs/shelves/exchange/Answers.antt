use Rattle.std.proofs.Common.{rules, ℕ, ◌<◌, ap, arith}
use Rattle.af_stateq.proofs.Common.{slots}
use Rattle.af_stateq.proofs.Exchanges.{at_first, next_shelf, exchange_one, at_last}
use Rattle.af_stateq.proofs.shelves.exchange.Goals as goal

pub loop-i-init : goal.loop-i-init
loop-i-init g c = (c.requires.whole, search rules, search rules, search rules, λ xs cs l e. at_first _ xs cs _ e)

pub slot_mut-shelf-requires : goal.slot_mut-shelf-requires
slot_mut-shelf-requires g c =
    let h = c.requires.held in
    (search rules, next_shelf _ h.0 h.1 _ _ _ (c.loop-i.invariant.4 h.0 h.1 h.2 h.3) (let lt = c.loop-i-test.true in let l = h.2 in omega arith))

pub loop-i-preserved : goal.loop-i-preserved
loop-i-preserved g c =
    let i : ℕ = c.loop-i.i in
    let low : i < slots = c.loop-i-test.true in
    let at = c.index_mut.ensures.value in (
      search rules,
      search rules,
      search rules,
      search rules,
      λ xs cs l e. exchange_one _ xs cs _ i _ (c.loop-i.invariant.4 xs cs l e) (omega arith) (let n = c.loop-i.invariant.0 in omega arith) _ _ _ _ _ c.slot_mut-shelf.ensures.value at c.swap.ensures.x_after c.swap.ensures.y_after (ap (λ m. m.1) c.turn.ensures.2),
    )

pub returns-clause-exchanged : goal.returns-clause-exchanged
returns-clause-exchanged g c xs cs l e = at_last _ xs cs _ c.loop-i.i _ (c.loop-i.invariant.4 xs cs l e) (let low = c.loop-i.auto.i-end in let high = c.loop-i-test.false in omega arith) (let n = c.requires.whole in let low = c.loop-i.auto.i-end in let high = c.loop-i-test.false in omega arith)
