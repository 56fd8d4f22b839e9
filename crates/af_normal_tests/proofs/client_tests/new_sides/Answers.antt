use Rattle.std.proofs.Common.{◌≤◌, ℕ, ap, sym, ◌∙◌, subst}
use Rattle.af_base.specs.declared.event.ClientCall.{ClientCall}
use Rattle.af_base.specs.Roomy.{Roomy}
use Rattle.af_cblk.specs.Shape.{most_flushes}
use Rattle.af_cblk.specs.Sides.{Made}
use Rattle.af_party.specs.Works.{flushes_to_come}
use Rattle.af_party.proofs.CanWorkOn.{work_new}
use Rattle.af_normal_tests.proofs.client_tests.new_sides.Goals as goal

pub returns-clause-work : goal.returns-clause-work
returns-clause-work c = λ ops count enough few flushes fits.
    let stream = c.in_ok-stream in let command = c.in_ok-command in
    let P : ℕ → Type 0 = λ z. flushes_to_come ops ≤ most_flushes z in
    work_new ops count (record { track = 0; client = c.new.result; stream = stream.stream.client; command = command.command.client; calls = c.in_ok-calls.calls }) (c.new.ensures ops) enough few
    (subst P (sym (ap (λ (m : Made). m.shape.wrap) stream.ensures.client.0 ∙ stream.ensures.sizes.2)) flushes) (fits stream.stream.client.pass.part.shape.cells command.command.client.pass.part.shape.cells)
    stream.ensures.kept.1 stream.ensures.kept.0 (ap (λ (m : Made). m.shape.frames) command.ensures.client.0 ∙ command.ensures.sizes.0, ap (λ (m : Made). m.shape.base) command.ensures.client.0 ∙ command.ensures.sizes.1)
    (ap (λ (r : Roomy ClientCall). r.room) c.in_ok-calls.ensures)
