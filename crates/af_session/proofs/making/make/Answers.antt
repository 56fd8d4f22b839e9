use Rattle.std.proofs.Common.{sym, subst}
use Rattle.af_session.proofs.Common.{AreTogether as AreEndsTogether, EngineState, IsNewEngine}
use Rattle.af_session.proofs.Begins.{all_together, new_session}
use Rattle.af_session.proofs.making.make.Goals as goal

pub returns-clause-new : goal.returns-clause-new
returns-clause-new c =
    let new = c.in_ok-shared.ensures.new in
    let ends : EngineState = record { tracks = c.ends.inside.tracks.items; normal = c.ends.inside.normal; fast = c.ends.inside.fast } in
    new_session c.args.script.now c.make_ends.ensures.script new.0 new.1 c.in_ok-shared.shared ends (subst (IsNewEngine new.0 c.in_ok-shared.shared) (sym c.ends.view_is) new.2) c.in-Ok.clients.items c.in-Ok.ensures

pub returns-clause-together : goal.returns-clause-together
returns-clause-together c = λ links l.
    let new = c.in_ok-shared.ensures.new in
    let ends : EngineState = record { tracks = c.ends.inside.tracks.items; normal = c.ends.inside.normal; fast = c.ends.inside.fast } in
    all_together c.args.script.now c.make_ends.ensures.script new.0 new.1 c.in_ok-shared.shared ends (subst (IsNewEngine new.0 c.in_ok-shared.shared) (sym c.ends.view_is) new.2) c.in-Ok.clients.items c.in-Ok.ensures links
    (subst (AreEndsTogether links) (sym c.ends.view_is) (c.in_ok-shared.ensures.together links l))
