use Rattle.std.proofs.Common.{◌+◌, List, sym, subst, arith}
use Rattle.af_cblk.specs.Sides.{Made}
use Rattle.af_client.specs.Order.{ClientState}
use Rattle.af_server.specs.Order.{ServerState}
use Rattle.af_normal.specs.Making.{TrackList}
use Rattle.af_normal_tests.specs.Testing.{AreLines, IsLine}
use Rattle.af_normal_tests.proofs.Lines.{lines_more}
use Rattle.af_normal_tests.proofs.table_tests.Lines.add.Goals as goal

pub returns : goal.returns
returns c = λ count lines.
    let now = c.args.self.now in
    let one = c.in_ok-frames in
    let two = c.in_ok-commands in
    let stream = c.in_ok-stream in
    let command = c.in_ok-command in
    subst (λ (y : List Made × List Made × List ClientState × List ClientState × TrackList). AreLines (count + 1) y.0 y.1 y.2 y.3 y.4)
    (λ i. (sym stream.ensures.block i, sym command.ensures.block i, sym stream.ensures.client i, sym command.ensures.client i, sym c.in_ok-push.ensures.added i))
    (lines_more count now.streams.items now.commands.items now.clients.items now.senders.items now.tracks one.frames.0 two.commands.0 one.frames.1 two.commands.1 _ lines
    (subst (λ (s : ServerState). IsLine one.frames.0 one.frames.1 s) (sym stream.ensures.server) one.ensures)
    (subst (λ (s : ServerState). IsLine two.commands.0 two.commands.1 s) (sym command.ensures.server) two.ensures)
    (omega arith))
