use Rattle.std.proofs.Common.{sym, ap, ◌∙◌}
use Rattle.af_cblk.specs.declared.view.ClientPart.{ClientPart}
use Rattle.af_link.specs.Reports.{last_cycle}
use Rattle.af_normal_tests.proofs.joints.join.Goals as goal

pub returns : goal.returns
returns c =
    let q = c.in-Ok-queue.ensures in
    let p = c.in-Ok.ensures in
    let r = c.in_ok-report.ensures in
    λ links queue_is streams_is pipe_is report_is. record {
      names = _;
      mutator_is = q.mutator;
      linked = record {
        names = (_, q.mutator.has_key, c.stream_names.ensures ∙ sym streams_is);
        queue_is = q.together.0 ∙ sym queue_is;
        report_is = r.together.1 ∙ sym report_is;
        pipe_is = p.made.0 ∙ sym pipe_is;
      };
      pipe_is = ap (λ (x : ClientPart). x.shape.frames) p.puts.0 ∙ p.size.0;
      queue_is = q.together.1 ∙ sym queue_is;
      key = (_, q.observer.0.has_key, c.stream_names.ensures ∙ sym streams_is);
      polls = q.observer.1;
      report_is = r.together.0 ∙ sym report_is;
      cycle_is = ap last_cycle r.lists.0;
      out_is = p.made.1 ∙ sym pipe_is;
    }
