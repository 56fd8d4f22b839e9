use Rattle.std.proofs.Common.{◌≡◌, ℕ, suc, ◌+◌, map, ap, ◌∙◌, arith}
use Rattle.af_judge.proofs.Common.{slots}
use Rattle.af_judge.specs.Foresight.{server_of, slots_foreseen}
use Rattle.af_judge.proofs.slot_report.foresee_slots.Goals as goal

pub loop-slot-init : goal.loop-slot-init
unfolding slots_foreseen
loop-slot-init c = λ ss is. is

pub loop-slot-preserved : goal.loop-slot-preserved
unfolding slots_foreseen
loop-slot-preserved c = λ ss is.
    let slot : ℕ = c.loop-slot.slot in
    let next : suc slot ≡ slot + 1 = omega arith in
    c.foresee_slot.ensures (slots_foreseen c.args.asked c.args.state.now c.args.entry.now slot ss) (c.loop-slot.invariant ss is)
    ∙ ap (λ n. map server_of (slots_foreseen c.args.asked c.args.state.now c.args.entry.now n ss)) next

pub returns : goal.returns
returns c = λ ss is.
    let all : c.loop-slot.slot ≡ slots = omega arith in
    c.loop-slot.invariant ss is ∙ ap (λ n. map server_of (slots_foreseen c.args.asked c.args.state.now c.args.entry.now n ss)) all
