use Rattle.std.proofs.Common.{◌≡◌, map, ap, ◌∙◌}
use Rattle.af_judge.proofs.Common.{slots}
use Rattle.af_judge.specs.Foresight.{heard_foreseen, server_of, slots_foreseen}
use Rattle.af_judge.specs.Reporting.{Telling, entry_added, polled_in, state_in, told_at_slot}
use Rattle.af_judge.proofs.slot_report.Reporter.foresee.Goals as goal

pub returns-clause-servers : goal.returns-clause-servers
returns-clause-servers c = λ ss is.
    let states = c.args.states.now in
    let entry = c.args.entry.now in
    let polled : c.poll.new.self ≡ polled_in states entry.state c.args.self.now = c.poll.ensures in
    let state = c.state-state.ensures ∙ ap (λ (t : Telling). state_in t states entry.state) polled in
    let asked = c.asked-asked.ensures ∙ ap (λ (t : Telling). t.asked) polled in
    c.foresee_slots.ensures ss is ∙ (λ j. map server_of (slots_foreseen (asked j) (state j) entry slots ss))

pub returns-clause-told : goal.returns-clause-told
returns-clause-told c = λ ss is.
    let states = c.args.states.now in
    let entry = c.args.entry.now in
    let polled : c.poll.new.self ≡ polled_in states entry.state c.args.self.now = c.poll.ensures in
    let state = c.state-state.ensures ∙ ap (λ (t : Telling). state_in t states entry.state) polled in
    let asked = c.asked-asked.ensures ∙ ap (λ (t : Telling). t.asked) polled in
    let heard = c.heard_by-heard.ensures (slots_foreseen c.asked-asked.result c.state-state.result entry slots ss) (c.foresee_slots.ensures ss is)
    ∙ (λ j. heard_foreseen (slots_foreseen (asked j) (state j) entry slots ss) (state j)) in
    c.add.ensures ∙ (λ j. entry_added states (told_at_slot (heard j)) entry (polled j))
