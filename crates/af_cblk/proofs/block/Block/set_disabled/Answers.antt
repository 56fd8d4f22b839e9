use Rattle.std.proofs.Common.{rules, sym, ap, ◌∙◌}
use Rattle.af_cblk.specs.Sides.{Made, hand_made}
use Rattle.af_cblk.proofs.Calls.{set_by_hand}
use Rattle.af_cblk.proofs.block.Block.set_disabled.Goals as goal

pub fetch_or-requires : goal.fetch_or-requires
fetch_or-requires g c =
    let same = ap hand_made c.hand.view_is ∙ c.requires ∙ sym c.self.view_is in
    (ap (λ (m : Made). m.id) same, search rules, set_by_hand _ _ c.self.invariant.0 _ _ _ c.hand.invariant.0)
