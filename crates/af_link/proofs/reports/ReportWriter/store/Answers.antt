use Rattle.std.proofs.Common.{◌<◌, List, sym, ap, ◌∙◌, subst}
use Rattle.af_model.specs.declared.newest.WriterEvent.{WriterEvent}
use Rattle.af_base.specs.declared.report.Report.{Report}
use Rattle.af_link.specs.Reports.{no_report, last_cycle, Rises, WriterSide}
use Rattle.af_link.proofs.Cycles.{rises_on, last-store}
use Rattle.af_link.proofs.reports.ReportWriter.store.Goals as goal

pub invariant_of-self : goal.invariant_of-self
invariant_of-self g c =
    let k = c.self.invariant in
    let later : last_cycle c.self.inside.writer.events < c.args.report.now.cycle = subst (λ (w : WriterSide). last_cycle w.events < c.args.report.now.cycle) (sym c.self.view_is) c.requires.later in
    record {
      first = c.store.ensures.together.1 ∙ k.first;
      rises = subst (λ (ws : List (WriterEvent Report)). Rises 0 ws) (sym c.store.ensures.list) (rises_on no_report c.args.report.now c.self.inside.writer.events k.rises later);
    }

pub returns-clause-last : goal.returns-clause-last
returns-clause-last g c = ap last_cycle c.store.ensures.list ∙ ap (λ (x : Report). x.cycle) (last-store no_report c.args.report.now c.self.inside.writer.events)
