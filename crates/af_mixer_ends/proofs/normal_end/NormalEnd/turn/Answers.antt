use Rattle.std.proofs.Common.{subst}
use Rattle.std.specs.Arc.{arc_value}
use Rattle.af_engine.specs.Shares.{SharedState, AreLinksOf}
use Rattle.af_mixer_ends.proofs.Moves.{order_moves}
use Rattle.af_mixer_ends.proofs.normal_end.NormalEnd.turn.Goals as goal

pub invariant_of-self : goal.invariant_of-self
invariant_of-self c = λ links are.
    let mine = c.links-links.result in
    order_moves (arc_value c.self.inside.shared) mine links (subst (λ (s : SharedState). AreLinksOf s mine) c.deref.ensures c.links-links.ensures) are c.turn_in.new.mixer c.turn_in.ensures.order
