use Rattle.std.proofs.Common.{rules, sym, ap, ◌∙◌}
use Rattle.af_cblk.specs.Sides.{Made}
use Rattle.af_cblk.proofs.Calls.{meets_by_hand}
use Rattle.af_cblk.proofs.block.Block.learn_hand.Goals as goal

pub load-requires : goal.load-requires
load-requires g c =
    (c.requires.table ∙ ap (λ (m : Made). m.id) (sym c.self.view_is), search rules, meets_by_hand _ _ c.self.invariant.0 _ _ _ c.requires.client c.requires.hand (c.requires.shape ∙ ap (λ (m : Made). m.shape) (sym c.self.view_is)))
