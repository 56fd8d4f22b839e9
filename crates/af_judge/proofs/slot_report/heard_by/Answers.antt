use Rattle.std.proofs.Common.{ℕ, arith}
use Rattle.af_judge.proofs.Common.{Heard, fill_by_all, known_by, nothing_heard, slot_of, slots}
use Rattle.af_judge.specs.Foresight.{server_in}
use Rattle.af_judge.proofs.slot_report.heard_by.Goals as goal

pub returns : goal.returns
returns c = λ ss is.
    let f : ℕ → Heard = λ i. known_by (server_in ss (slot_of c.args.state.now i).track) in
    fill_by_all f c.loop-slot.heard slots nothing_heard c.loop-slot.invariant.long (λ i low. c.loop-slot.invariant.each ss is i (omega (arith, low)))
