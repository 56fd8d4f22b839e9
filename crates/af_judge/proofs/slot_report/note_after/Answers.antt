use Rattle.std.proofs.Common.{ℕ, ◌-◌, [], ◌∷◌, sym, ap, ◌∙◌}
use Rattle.af_judge.proofs.Common.{Seen, events_behind_look, tally}
use Rattle.af_base.specs.declared.event.ServerEvent.TheVariants as server
use Rattle.af_judge.specs.Foresight.{did_more, server_of}
use Rattle.af_judge.proofs.MoreDone.{more_done}
use Rattle.af_judge.proofs.slot_report.note_after.Goals as goal

pub returns-in-Frames : goal.returns-in-Frames
returns-in-Frames c = λ s is.
    let count = c.in-Frames.count in
    c.note_missing.ensures (did_more (server.Take count ∷ []) s) (c.note.ensures s is)
    ∙ (ap (λ (m : ℕ). server_of (did_more (tally m) (did_more (server.Take count ∷ []) s))) c.saturating_sub.ensures
    ∙ (ap server_of (more_done (server.Take count ∷ []) (tally (c.args.asked - count)) s)
    ∙ ap (λ (z : Seen). server_of (did_more (events_behind_look c.args.asked c.args.was_shut z) s)) (sym c.in-Frames.is)))
