use Rattle.std.proofs.Common.{rules, sym, ap, ◌∙◌}
use Rattle.af_cblk.specs.Sides.{Made}
use Rattle.af_cblk.proofs.Seats.{hand_leaves, hand_comes}
use Rattle.af_cblk.proofs.block.Block.bring_hand.Goals as goal

pub split_seat-moved-requires : goal.split_seat-moved-requires
split_seat-moved-requires g c = (c.requires.from ∙ ap (λ (m : Made). m.id) (sym c.self.view_is), search rules, hand_leaves _ _ _ c.requires.has)

pub join_seat-requires : goal.join_seat-requires
join_seat-requires g c =
    let same = ap (λ (m : Made). m.id) (sym c.self.view_is) in
    let moved = c.split_seat-moved.ensures in
    (c.requires.to ∙ same, moved.3 ∙ c.requires.from ∙ same, ap (λ m. m.1) moved.4, search rules, hand_comes _ _ _ _ _ (ap (λ m. m.0.is_hand) moved.4 ∙ c.requires.has))
