use Rattle.std.proofs.Common.{length, Some, ap, sym, ◌∙◌}
use Rattle.std.specs.Prelude.{slice_get}
use Rattle.af_cblk.specs.Sides.{Made}
use Rattle.af_normal_tests.proofs.client_tests.plays_in.Goals as goal

pub all_do-told-requires-clause-clients : goal.all_do-told-requires-clause-clients
all_do-told-requires-clause-clients g c =
    let made = c.in_ok-stage.ensures in
    record {
      stream_is = (λ i. slice_get (c.from_ref-streams.ensures.value i) (made.track i)) ∙ ap (λ (m : Made). Some m) (sym made.clients.0.0);
      command_is = (λ i. slice_get (c.from_ref-commands.ensures.value i) (made.track i)) ∙ ap (λ (m : Made). Some m) (sym made.clients.1.0);
      in_order = (made.clients.0.1, made.clients.1.1);
    }

pub all_do-told-requires-clause-work : goal.all_do-told-requires-clause-work
all_do-told-requires-clause-work g c = c.in_ok-stage.ensures.work c.args.ops.now (length c.args.file.now) c.requires.file.0 c.requires.file.1 c.requires.file.2 c.requires.fits
