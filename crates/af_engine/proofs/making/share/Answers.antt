use Rattle.std.proofs.Common.{List, subst}
use Rattle.af_engine.proofs.Common.{AreNewEnds, Made}
use Rattle.af_engine.proofs.making.share.Goals as goal

pub returns-clause-ends : goal.returns-clause-ends
returns-clause-ends c = subst (λ (xs : List Made). AreNewEnds c.args.frames c.args.normal (record { queue = c.in_ok-joints.joints.queue; streams = xs; commands = c.args.commands.items; pipe = c.in_ok-joints.joints.pipe; report = c.in_ok-joints.joints.report }) (record { mutator = c.in_ok-joints.joints.ends.mutator; reader = c.in_ok-joints.joints.ends.reader; from = c.in_ok-joints.joints.ends.from; observer = c.in_ok-joints.joints.ends.observer; writer = c.in_ok-joints.joints.ends.writer; to = c.in_ok-joints.joints.ends.to })) c.deref.ensures.value (c.in_ok-joints.ensures c.args.commands.items)
