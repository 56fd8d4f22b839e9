use Rattle.std.proofs.Common.{List, [], ◌∷◌, ap, ◌∙◌}
use Rattle.af_judge.proofs.Common.{Listed, ServerEvent, drops_of}
use Rattle.af_base.specs.declared.event.ServerEvent.TheVariants as server
use Rattle.af_judge.specs.Foresight.{did_more, server_of}
use Rattle.af_judge.proofs.MoreDone.{more_done}
use Rattle.af_judge.proofs.slot_report.note_look.Goals as goal

pub returns : goal.returns
returns c = λ s is.
    let slot = c.args.slot.now in
    let a : ServerEvent = server.SawFlush slot.flush in
    let b : ServerEvent = server.SawRear slot.rear in
    let d : ServerEvent = server.SawFront c.args.front in
    let drops : List ServerEvent = drops_of slot.seen c.args.front in
    let one = c.note.ensures s is in
    let two = c.note-2.ensures (did_more (a ∷ []) s) one in
    let three = c.note-3.ensures (did_more (b ∷ []) (did_more (a ∷ []) s)) two in
    c.note_drop.ensures (did_more (d ∷ []) (did_more (b ∷ []) (did_more (a ∷ []) s))) three
    ∙ ap server_of
    (ap (λ (x : Listed). did_more drops (did_more (d ∷ []) x)) (more_done (a ∷ []) (b ∷ []) s)
    ∙ (ap (λ (x : Listed). did_more drops x) (more_done (a ∷ b ∷ []) (d ∷ []) s) ∙ more_done (a ∷ b ∷ d ∷ []) drops s))
