use Rattle.std.proofs.Common.{arith, sym, ◌∙◌, ap, length, length-set, List}
use Rattle.af_model.specs.declared.plain_calls.Place.{Place}
use Rattle.af_model.proofs.Places.{all_moved, one_more}
use Rattle.af_model.proofs.plain_places.move_all.Goals as goal

pub loop-i-preserved : goal.loop-i-preserved
loop-i-preserved g c =
    let i = c.loop-i.invariant in
    let more = one_more c.args.step.now c.loop-i.i c.args.places.now.items c.loop-i.places.items c.move_at.new.places.items
    (let e = i.0 in let lt = c.loop-i-test.true in omega arith) c.move_at.ensures i.1 i.2 in
    (ap (λ (l : List (Place g.row.P.Denot)). length l) c.move_at.ensures ∙ length-set c.loop-i.places.items c.loop-i.i _ ∙ i.0, more.0, more.1)

pub returns-clause-moved : goal.returns-clause-moved
returns-clause-moved g c = all_moved _ _ _ (c.loop-i.invariant.0 ∙ sym c.requires) (λ i lt. c.loop-i.invariant.1 i (let e = c.loop-i-test.false in let r = c.requires in omega arith))
