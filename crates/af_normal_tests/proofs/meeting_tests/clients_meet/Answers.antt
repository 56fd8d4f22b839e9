use Rattle.std.proofs.Common.{◌<◌, length, arith}
use Rattle.std.proofs.lemmas.Slice.Zip.{AllZip-long}
use Rattle.af_client.specs.Order.{IsClientOf}
use Rattle.af_normal_tests.proofs.Clients.{client_at, client_set}
use Rattle.af_normal_tests.proofs.meeting_tests.clients_meet.Goals as goal

pub bounds-streams-track : goal.bounds-streams-track
bounds-streams-track g c = omega (arith, AllZip-long IsClientOf c.args.links.now.streams.now c.args.streams.now c.requires.streams, c.requires.order.tied.sizes.blocks.0)

pub bounds-commands-track : goal.bounds-commands-track
bounds-commands-track g c = omega (arith, AllZip-long IsClientOf c.args.links.now.commands.now c.args.commands.now c.requires.commands, c.requires.order.tied.sizes.blocks.1)

pub meet_client-requires-clause-clients : goal.meet_client-requires-clause-clients
meet_client-requires-clause-clients g c =
    let in_streams : c.args.track < length c.args.streams.now =
    omega (arith, AllZip-long IsClientOf c.args.links.now.streams.now c.args.streams.now c.requires.streams, c.requires.order.tied.sizes.blocks.0) in
    let in_commands : c.args.track < length c.args.commands.now =
    omega (arith, AllZip-long IsClientOf c.args.links.now.commands.now c.args.commands.now c.requires.commands, c.requires.order.tied.sizes.blocks.1) in
    let stream = client_at c.args.links.now.streams.now c.args.streams.now c.args.track c.index-streams-track.result c.requires.streams in_streams in
    let command = client_at c.args.links.now.commands.now c.args.commands.now c.args.track c.index-commands-track.result c.requires.commands in_commands in
    record { stream_is = stream.0; command_is = command.0; in_order = (stream.1, command.1) }

pub returns-clause-streams : goal.returns-clause-streams
returns-clause-streams g c =
    let clients = c.meet_client.ensures.clients in
    client_set c.args.links.now.streams.now c.args.streams.now c.args.track c.meet_client.new.stream c.requires.streams clients.stream_is clients.in_order.0

pub returns-clause-commands : goal.returns-clause-commands
returns-clause-commands g c =
    let clients = c.meet_client.ensures.clients in
    client_set c.args.links.now.commands.now c.args.commands.now c.args.track c.meet_client.new.command c.requires.commands clients.command_is clients.in_order.1
