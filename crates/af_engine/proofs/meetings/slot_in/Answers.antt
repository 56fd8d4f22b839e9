use Rattle.std.proofs.Common.{◌≡◌, ◌∙◌, ◌==◌, sym, subst, ℕ, None, arith}
use Rattle.af_engine.proofs.Common.{and_from, carries, eq-eqb, slot_below, slot_of, slots}
use Rattle.af_engine.proofs.MetSlots.{found_at, none_found}
use Rattle.af_engine.proofs.meetings.slot_in.Goals as goal

pub returns-then-state-slot : goal.returns-then-state-slot
returns-then-state-slot c =
    let x = c.args.state.now in
    let slot : ℕ = c.loop-slot.slot in
    sym (found_at x c.args.track slot (omega arith) c.loop-slot.invariant
    (and_from (carries x slot) ((slot_of x slot).track == c.args.track) (sym c.carries_item.ensures ∙ c.if-carries_item.true) (eq-eqb (slot_of x slot).track c.args.track c.if-state-slot.true)))

pub returns : goal.returns
returns c =
    let x = c.args.state.now in
    let all : c.loop-slot.slot ≡ slots = omega arith in
    sym (none_found x c.args.track (subst (λ (n : ℕ). slot_below x c.args.track n ≡ None) all c.loop-slot.invariant))
