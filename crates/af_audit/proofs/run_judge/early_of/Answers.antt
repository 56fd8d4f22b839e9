use Rattle.std.proofs.Common.{arith}
use Rattle.af_audit.proofs.EarlyOnes.{early_all, early_more, early_stops}
use Rattle.af_audit.proofs.run_judge.early_of.Goals as goal

pub returns-then-entry-pushed-clause-early : goal.returns-then-entry-pushed-clause-early
returns-then-entry-pushed-clause-early c =
    early_stops c.args.log.now.entries c.args.entries.first c.args.entries.count c.args.pushed c.requires c.loop-at.at c.in-Some.entry.now c.loop-at-test.true c.loop-at.invariant c.in-Some.ensures.1 c.if-entry-pushed.true

pub loop-at-preserved : goal.loop-at-preserved
loop-at-preserved c =
    early_more c.args.log.now.entries c.args.entries.first c.args.entries.count c.args.pushed c.requires c.loop-at.at c.in-Some.entry.now c.loop-at-test.true c.loop-at.invariant c.in-Some.ensures.1 c.if-entry-pushed.false

pub returns-clause-early : goal.returns-clause-early
returns-clause-early c =
    let h = c.loop-at.invariant in
    let past = c.loop-at-test.false in
    early_all c.args.log.now.entries c.args.entries.first c.args.entries.count c.args.pushed c.requires (omega (arith, h, past))
