use Rattle.std.proofs.Common.{List, sym, ap, subst, ◌∙◌}
use Rattle.af_base.specs.declared.report.Report.{Report}
use Rattle.af_cblk.specs.Sides.{Made}
use Rattle.af_link.specs.Names.{IsStreamOf}
use Rattle.af_normal_tests.specs.Testing.{AreClients}
use Rattle.af_normal_tests.proofs.table_tests.begin.Goals as goal

pub returns : goal.returns
returns c =
    let lines = c.in_ok-lines.ensures in
    λ links queue_is streams_is commands_is pipe_is report_is. (
    let j = c.in_ok-joints.ensures links queue_is (streams_is ∙ sym c.deref.ensures.value) pipe_is report_is in (
      record {
        names = j.names;
        mutator_is = j.mutator_is;
        linked = j.linked;
        streams_of = (λ i s is. subst (λ (b : List Made). IsStreamOf b i s) (sym streams_is) (lines.streams_of i s is));
        hands_of = lines.hands_of;
        commands_of = (λ i s is. subst (λ (b : List Made). IsStreamOf b i s) (sym commands_is) (lines.commands_of i s is));
        pipe_is = j.pipe_is;
      },
      lines.long.2,
      lines.scales,
      record {
        queue_is = j.queue_is;
        names = j.key;
        polls = j.polls;
        report_is = j.report_is;
        cycle_is = j.cycle_is ∙ sym (ap (λ (x : Report). x.cycle) c.first_report.ensures);
        pipe_is = j.out_is;
        streams_are = subst (λ (b : List Made). AreClients b c.in_ok-lines.lines.clients.items) (sym streams_is) lines.clients_are;
        commands_are = subst (λ (b : List Made). AreClients b c.in_ok-lines.lines.senders.items) (sym commands_is) lines.senders_are;
      },
    )
    )
