use Rattle.std.proofs.Common.{List, Option, sym, subst}
use Rattle.af_cblk.specs.Sides.{Made}
use Rattle.af_client.specs.Order.{ClientState}
use Rattle.af_server.specs.Order.{ServerState}
use Rattle.af_fast_tests.specs.Ready.{AreLines}
use Rattle.af_fast_tests.proofs.Waiting.{lines_more}
use Rattle.af_fast_tests.proofs.table_tests.add_lines.Goals as goal

pub loop-size-preserved : goal.loop-size-preserved
loop-size-preserved c =
    let one = c.in_ok-block in
    subst (λ (y : List Made × List ClientState × List (Option ServerState)). AreLines y.0 y.1 y.2) (λ i. (sym c.in_ok-push.ensures.items i, sym c.in_ok-push-2.ensures.items i, sym c.in_ok-push-3.ensures.items i))
    (lines_more c.loop-size.streams.items c.loop-size.clients.items c.loop-size.servers.items one.block one.client one.server c.loop-size.invariant one.ensures)
