use Rattle.std.proofs.Common.{rules, None, sym, ◌∙◌, arith}
use Rattle.std.proofs.lemmas.List.{get_or_default}
use Rattle.af_fast_tests.proofs.Waiting.{one_taken, one_given}
use Rattle.af_fast_tests.proofs.table_tests.take_server.Goals as goal

pub returns-clause-waiting : goal.returns-clause-waiting
returns-clause-waiting c = one_taken c.args.streams.now c.args.servers.now c.args.track c.take.new.self (search (rules)) (omega arith) c.requires

pub returns-clause-stream : goal.returns-clause-stream
returns-clause-stream c =
    one_given c.args.streams.now c.args.servers.now c.args.track c.take.result c.requires
    (get_or_default c.args.servers.now c.args.track None c.index-servers-track.result (omega arith) ∙ sym c.take.ensures.value)
