use Rattle.std.proofs.Common.{◌≡◌, true, subst, sym, ap, ◌∙◌}
use Rattle.af_judge.proofs.Common.{carries, entry_slot, is_shown, slot_of}
use Rattle.af_judge.specs.FastKept.{FastKept, IsLookRight}
use Rattle.af_judge.proofs.fast_judge.FastJudge.play_slot.Goals as goal

pub returns-clause-right : goal.returns-clause-right
returns-clause-right c =
    let x = c.args.state.now in
    let slot = entry_slot c.args.entry.now c.args.slot in
    let asked : c.self.inside.asked ≡ c.args.self.now.told.asked = c.self.invariant ∙ ap (λ (f : FastKept). f.told.asked) c.self.view_is in
    let carried : carries x c.args.slot ≡ true = sym c.carries_item.ensures ∙ c.if-not-carries_item.false in
    let shown : is_shown slot.seen ≡ true = sym c.is_shown.ensures ∙ c.if-not-is_shown.false in (
      λ h mixed on. (shown, subst (λ a. IsLookRight a slot (slot_of x c.args.slot).track c.args.tracks.now) asked (c.in_ok-right.ensures.right.0 (c.holds_if.ensures.0 h (c.is_mixed-mixed.ensures ∙ mixed)))),
      λ r. c.holds_if.ensures.1 (λ m. c.in_ok-right.ensures.right.1 (subst (λ a. IsLookRight a slot (slot_of x c.args.slot).track c.args.tracks.now) (sym asked) ((r (sym c.is_mixed-mixed.ensures ∙ m) carried).1))),
    )
