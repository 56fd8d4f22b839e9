use Rattle.std.proofs.Common.{◌<◌, arith, sym, ◌∙◌, false, length, map}
use Rattle.af_model.proofs.Common.{ext_get_or, get_or-map, length-map}
use Rattle.af_model.specs.declared.plain_calls.Place.TheVariants.{Nowhere}
use Rattle.af_model.specs.PlainQueue.{is_placed}
use Rattle.af_model.proofs.plain_places.placed.Goals as goal

pub returns : goal.returns
returns g c =
    let places = c.args.places.now.items in
    let whole = c.loop-i.invariant.0 in
    ext_get_or false c.loop-i.out (map is_placed places) (whole ∙ sym c.requires ∙ sym (length-map places is_placed))
    (λ i lt. let here : i < length places = (let r = c.requires in omega arith) in
    c.loop-i.invariant.1 i (let e = c.loop-i-test.false in omega arith) ∙ sym (get_or-map is_placed places i Nowhere false here))
