use Rattle.std.proofs.Common.{◌+◌, length, ap, ◌∙◌, subst, arith}
use Rattle.af_normal.specs.Mutating.{EditsTo, begun, due_command}
use Rattle.af_normal.specs.Order.{IsOpen}
use Rattle.af_normal.specs.State.{NormalState}
use Rattle.af_normal.proofs.Edited.{edits_colds, commands_editing}
use Rattle.af_normal.proofs.OrderStages.{edited_open}
use Rattle.af_normal.proofs.mixer.NormalMixer.mutate.Goals as goal

pub order-ordered-requires : goal.order-ordered-requires
order-ordered-requires c =
    let x : NormalState = c.args.self.now in
    let x1 : NormalState = record x { mutator = begun x.mutator } in
    let z : NormalState = c.edit_all-edited.new.self in
    let to : EditsTo (length x1.tracks) x1 z = subst (λ (v : NormalState). EditsTo (length v.tracks) v z)
    (λ j. record (c.self.view_is j) { mutator = (c.begin.ensures ∙ ap (λ (v : NormalState). begun v.mutator) c.self.view_is) j }) c.edit_all-edited.ensures.edits in
    let opened : IsOpen c.args.links.now (c.requires.may.0 + length x1.tracks) z = edited_open c.args.links.now c.requires.may.0 (length x1.tracks) x1 z c.requires.may.2 to in
    record {
      editing = opened.editing;
      sizes = (opened.tied.sizes.frames.1, opened.tied.sizes.normal.1);
      colds = (let e = edits_colds (length x1.tracks) x1 z to in let d = c.requires.colds in omega arith);
    }

pub end-requires-clause-editing : goal.end-requires-clause-editing
end-requires-clause-editing c =
    let x : NormalState = c.args.self.now in
    let x1 : NormalState = record x { mutator = begun x.mutator } in
    let z : NormalState = c.edit_all-edited.new.self in
    let to : EditsTo (length x1.tracks) x1 z = subst (λ (v : NormalState). EditsTo (length v.tracks) v z)
    (λ j. record (c.self.view_is j) { mutator = (c.begin.ensures ∙ ap (λ (v : NormalState). begun v.mutator) c.self.view_is) j }) c.edit_all-edited.ensures.edits in
    let opened : IsOpen c.args.links.now (c.requires.may.0 + length x1.tracks) z = edited_open c.args.links.now c.requires.may.0 (length x1.tracks) x1 z c.requires.may.2 to in
    ap (λ (v : NormalState). v.mutator.editing) c.self-2.view_is ∙ ap (λ (v : NormalState). v.mutator.editing) c.order-ordered.ensures.orders
    ∙ commands_editing (due_command c.args.room z) z.mutator ∙ opened.editing
