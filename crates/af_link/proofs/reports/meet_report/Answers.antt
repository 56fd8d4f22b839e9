use Rattle.std.proofs.Common.{List, length, sym, ◌∙◌, subst}
use Rattle.af_model.specs.declared.newest.WriterEvent.{WriterEvent}
use Rattle.af_base.specs.declared.report.Report.{Report}
use Rattle.af_link.specs.Reports.{no_report, Rises}
use Rattle.af_link.proofs.Cycles.{rises_met, cycles_never_fall}
use Rattle.af_link.proofs.reports.meet_report.Goals as goal

pub invariant_of-writer : goal.invariant_of-writer
invariant_of-writer g c =
    let k = c.writer.invariant in
    record {
      first = c.meet_latest.ensures.together.1 ∙ k.first;
      rises = subst (λ (ws : List (WriterEvent Report)). Rises 0 ws) (sym c.meet_latest.ensures.writer) (rises_met 0 (length c.reader.inside.reader.events) c.writer.inside.writer.events k.rises);
    }

pub returns-clause-never_older : goal.returns-clause-never_older
returns-clause-never_older g c =
    cycles_never_fall c.meet_latest.new.writer.events c.meet_latest.new.reader.events (invariant_of-writer g c).rises (c.meet_latest.ensures.history no_report c.writer.invariant.first)
