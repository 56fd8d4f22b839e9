use Rattle.std.proofs.Common.{arith}
use Rattle.af_fast_tests.proofs.Waiting.{one_put}
use Rattle.af_fast_tests.proofs.table_tests.put_server.Goals as goal

pub returns-then-track-servers : goal.returns-then-track-servers
returns-then-track-servers c = record { waiting = one_put c.args.streams.now c.args.servers.now c.args.track c.args.server c.requires.stream (omega arith) c.requires.waiting }
