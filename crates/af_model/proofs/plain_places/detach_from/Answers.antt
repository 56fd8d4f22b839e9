use Rattle.std.proofs.Common.{ap, ◌∙◌, List, slice_set}
use Rattle.af_model.proofs.Common.{set-set}
use Rattle.af_model.specs.declared.plain_calls.Place.{Place}
use Rattle.af_model.specs.PlainQueue.{let_go}
use Rattle.af_model.proofs.plain_places.detach_from.Goals as goal

pub returns : goal.returns
returns g c =
    let old = c.args.places.now.items in
    let slot = c.args.slot in
    ap (λ (l : List (Place g.row.P.Denot)). slice_set l slot c.let_go.result) c.empty-place.ensures.places
    ∙ set-set old slot _ c.let_go.result
    ∙ ap (λ (x : Place g.row.P.Denot). slice_set old slot x) (c.let_go.ensures ∙ ap let_go c.empty-place.ensures.place)
