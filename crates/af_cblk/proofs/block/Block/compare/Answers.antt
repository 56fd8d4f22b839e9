use Rattle.std.proofs.Common.{rules, sym, ap, ◌∙◌}
use Rattle.af_cblk.specs.Sides.{Made}
use Rattle.af_cblk.proofs.Calls.{recalled_by_hand}
use Rattle.af_cblk.proofs.block.Block.compare.Goals as goal

pub load-requires : goal.load-requires
load-requires g c =
    (c.requires.table ∙ ap (λ (m : Made). m.id) (sym c.self.view_is), search rules, recalled_by_hand _ _ c.self.invariant.0 _ _ _ c.requires.server c.requires.hand)
