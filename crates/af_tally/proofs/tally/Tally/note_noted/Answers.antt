use Rattle.std.proofs.Common.{◌∙◌, ap}
use Rattle.af_tally.specs.Noting.{with_note}
use Rattle.af_tally.specs.Tallies.{Tallied}
use Rattle.af_tally.proofs.Tallying.{note_noted}
use Rattle.af_tally.proofs.tally.Tally.note_noted.Goals as goal

pub returns-clause-tally : goal.returns-clause-tally
returns-clause-tally g c = λ run is.
    let view = c.self.view_is in
    let told = c.noted-self-inside.ensures ∙ ap (λ (t : Tallied). with_note c.args.steps.now t.steps) view in
    note_noted run c.args.self.now _ c.args.steps.now (λ i. record (view i) { steps = told i }) c.requires.few is
