use Rattle.af_server.proofs.Kept.{tally_keeps}
use Rattle.af_server.proofs.server.Server.tally.Goals as goal

pub returns-clause-ready : goal.returns-clause-ready
returns-clause-ready g c =
    (c.set_flags.ensures.made, tally_keeps c.args.self.now _ c.add_underrun.new.pass c.set_flags.new.pass c.args.missing c.requires.ready.1 c.requires.missing c.self.view_is c.add_underrun.ensures.tallied c.set_flags.ensures.set)
