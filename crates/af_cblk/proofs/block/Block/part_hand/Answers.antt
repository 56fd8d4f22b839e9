use Rattle.std.proofs.Common.{rules, sym, ap, ◌∙◌}
use Rattle.af_cblk.specs.Sides.{Made}
use Rattle.af_cblk.proofs.Seats.{hand_leaves}
use Rattle.af_cblk.proofs.block.Block.part_hand.Goals as goal

pub split_seat-moved-requires : goal.split_seat-moved-requires
split_seat-moved-requires g c = (c.requires.from ∙ ap (λ (m : Made). m.id) (sym c.self.view_is), search rules, hand_leaves _ _ _ c.requires.has)
