use Rattle.std.proofs.Common.{◌+◌, subst}
use Rattle.af_judge.specs.Reporting.{CountsUpTo, Telling}
use Rattle.af_judge.proofs.slot_report.Reporter.slot.Goals as goal

pub returns-clause-few : goal.returns-clause-few
returns-clause-few c =
    let most = c.self.inside.report.cycle in
    let P : Telling → Type 0 = λ t. CountsUpTo (t.report.cycle + 1) c.counted_look.result in
    subst P c.self.view_is (c.counted_look.ensures.few most (c.counts_from-counts.ensures.few most (c.self.invariant.1 c.args.slot c.requires.slot)))
