use Rattle.std.proofs.Common.{length, refl}
use Rattle.af_merges.proofs.Common.{slice_get_read}
use Rattle.af_merges.specs.Stages.{Client, lists_of}
use Rattle.af_merges.proofs.OneOrder.{is_next, look_next}
use Rattle.af_merges.proofs.one_order.if_client_looks.Goals as goal

pub returns-clause-next : goal.returns-clause-next
returns-clause-next c =
    let l = lists_of c.args.events.now in
    let m = c.args.stage.now in
    let e = c.in_ok-event.event.now in
    let found = c.in_ok-event.ensures.lookup in
    let at = slice_get_read l.client (length l.client) m.clients e refl found.3.0 found.1 in
    is_next l Client m c.when.result (look_next l m e c.keeps_client.result c.when.result at (c.may_look.ensures c.if-not-may_look.false) c.keeps_client.ensures c.when.ensures.value)
