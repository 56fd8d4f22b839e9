use Rattle.std.proofs.Common.{subst, sym, arith}
use Rattle.af_judge.proofs.Common.{SlotReport, get_or-replicate, no_report, no_slot, slots}
use Rattle.af_judge.specs.Reporting.{CountsUpTo}
use Rattle.af_judge.proofs.slot_report.Reporter.new.Goals as goal

pub invariant_of-result : goal.invariant_of-result
invariant_of-result c =
    (c.first_state-first.ensures, λ i low. subst (λ (r : SlotReport). CountsUpTo 0 r) (sym (get_or-replicate slots i no_slot no_slot low)) (record { fulls = omega arith; partials = omega arith; empties = omega arith }))

pub returns : goal.returns
returns c = λ i. record { asked = c.args.asked; current = 0; used = 0; draft = c.first_state-first.ensures i; report = no_report }
