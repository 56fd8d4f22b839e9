use Rattle.std.proofs.Common.{sym, subst}
use Rattle.af_static.specs.Calls.{HasPlayed}
use Rattle.af_ends.specs.Statics.{PlayerEndState}
use Rattle.af_ends.proofs.static_ends.PlayerEnd.close.Goals as goal

pub returns-clause-played : goal.returns-clause-played
returns-clause-played c = λ frames calls played count h.
    c.meet_in.ensures.played frames calls played count (subst (λ (x : PlayerEndState). HasPlayed frames calls played count x.player) (sym c.self.view_is) h)
