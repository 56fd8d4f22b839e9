use Rattle.std.proofs.Common.{ap, ◌∙◌, List, slice_set}
use Rattle.af_model.proofs.Common.{set-set}
use Rattle.af_model.specs.declared.plain_calls.Place.{Place}
use Rattle.af_model.specs.PlainQueue.{left}
use Rattle.af_model.proofs.plain_places.take_from.Goals as goal

pub returns-clause-places : goal.returns-clause-places
returns-clause-places g c =
    let old = c.args.places.now.items in
    let slot = c.args.slot in
    ap (λ (l : List (Place g.row.P.Denot)). slice_set l slot c.taken-place.result.0) c.empty.ensures.places
    ∙ set-set old slot _ c.taken-place.result.0
    ∙ ap (λ (x : Place g.row.P.Denot). slice_set old slot x) (c.taken-place.ensures.place ∙ ap left c.empty.ensures.place)
