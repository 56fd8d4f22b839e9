use Rattle.std.proofs.Common.{◌<◌, length, get_or, slice_set, ap, ◌∙◌, arith}
use Rattle.af_session.proofs.Common.{PartyState, end_party, slice_get-get_or}
use Rattle.af_session.proofs.MapMore.{map_more}
use Rattle.af_session.proofs.rounds.end_all.Goals as goal

pub loop-client-preserved : goal.loop-client-preserved
loop-client-preserved c =
    let now = c.loop-client.clients in
    let i = c.loop-client.client-index in
    let was = c.client-item.result in
    let lt : i < length now = omega (arith, c.loop-client-test.true, c.loop-client.auto.clients) in
    ap (λ (p : PartyState). slice_set now i p) c.end.ensures
    ∙ map_more end_party c.args.clients.now now i (get_or now i was) c.loop-client.invariant (slice_get-get_or now i was lt)
