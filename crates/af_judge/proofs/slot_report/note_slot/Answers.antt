use Rattle.std.specs.Prelude.{if◌then◌else◌}
use Rattle.std.proofs.Common.{◌≡◌, List, [], ◌∷◌, ◌++◌, ap, ◌∙◌}
use Rattle.af_judge.proofs.Common.{Listed, ServerEvent, events_behind_look, front_of, is_some, kept, look_events}
use Rattle.af_base.specs.declared.event.ServerEvent.TheVariants as server
use Rattle.af_judge.specs.declared.server_judge.ServerJudge.{ServerJudge}
use Rattle.af_judge.specs.Foresight.{did_more, server_of}
use Rattle.af_judge.proofs.MoreDone.{more_done}
use Rattle.af_judge.proofs.slot_report.note_slot.Goals as goal

pub returns : goal.returns
returns c = λ s is.
    let asked = c.args.asked in
    let slot = c.args.slot.now in
    let w = c.is_shut-was_shut.result in
    let f = c.front_told-front.result in
    let gain : ServerEvent = server.SawGain slot.gains in
    let looks : List ServerEvent = (if w then [] else look_events slot.seen slot.flush slot.rear f) in
    let after : List ServerEvent = events_behind_look asked w slot.seen in
    let shut : w ≡ is_some (kept s).shut = c.is_shut-was_shut.ensures ∙ ap (λ (j : ServerJudge). is_some j.shut) is in
    let front : f ≡ front_of asked s slot = c.front_told-front.ensures s is in
    let one = c.note.ensures s is in
    let two = c.note_seen.ensures (did_more (gain ∷ []) s) one in
    c.note_after.ensures (did_more looks (did_more (gain ∷ []) s)) two
    ∙ (ap server_of (ap (λ (x : Listed). did_more after x) (more_done (gain ∷ []) looks s) ∙ more_done (gain ∷ looks) after s)
    ∙ (λ j. server_of (did_more ((gain ∷ (if shut j then [] else look_events slot.seen slot.flush slot.rear (front j))) ++ events_behind_look asked (shut j) slot.seen) s)))
