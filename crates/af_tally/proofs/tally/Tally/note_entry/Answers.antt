use Rattle.std.specs.Prelude.{option_copied}
use Rattle.std.proofs.Common.{[], ◌∷◌, ◌++◌, ◌∙◌, ap}
use Rattle.af_tally.specs.Tallies.{Tallied}
use Rattle.af_tally.proofs.Tallying.{entry_noted}
use Rattle.af_tally.proofs.tally.Tally.note_entry.Goals as goal

pub returns-clause-tally : goal.returns-clause-tally
returns-clause-tally g c = λ run few is. entry_noted run (record { entry = c.args.entry.now; state = option_copied c.args.state }) c.args.steps.now c.args.self.now c.note_state.new.self c.note_steps.new.self c.note_state.ensures
    (c.note_steps.ensures ∙ ap (λ (t : Tallied). record t { steps = t.steps ++ (c.args.steps.now, 0) ∷ [] }) c.note_cycle.ensures) few is
