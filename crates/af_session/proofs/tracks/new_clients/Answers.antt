use Rattle.std.proofs.Common.{◌++◌, ◌∷◌, [], List, sym, ap, ◌∙◌, subst, append_assoc}
use Rattle.af_session.proofs.Common.{AreNewClients, TrackEnds, into_iter_items}
use Rattle.af_session.proofs.NewClients.{one_client_more}
use Rattle.af_session.proofs.tracks.new_clients.Goals as goal

pub loop-one-preserved : goal.loop-one-preserved
loop-one-preserved c =
    let l = c.loop-one in
    let one = c.in-Some.one in
    let client = c.in_ok-client.client in
    let more = one_client_more l.yielded l.clients.items one client l.invariant.0 c.in_ok-client.ensures in
    (subst (AreNewClients (l.yielded ++ one ∷ [])) (sym c.in_ok-push.ensures.items) more, l.invariant.1 ∙ ap (λ (xs : List TrackEnds). l.yielded ++ xs) c.in-Some.ensures.steps.0 ∙ sym (append_assoc l.yielded (one ∷ []) (into_iter_items c.next.new.self)))
