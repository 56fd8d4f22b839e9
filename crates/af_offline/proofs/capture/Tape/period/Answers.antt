use Rattle.std.proofs.Common.{ℕ, ◌+◌, ap, ap₂, ◌∙◌}
use Rattle.af_offline.proofs.Common.{HandState}
use Rattle.af_offline.specs.Recorded.{read_up_to}
use Rattle.af_offline.proofs.Taped.{supply_state}
use Rattle.af_offline.proofs.capture.Tape.period.Goals as goal

pub returns-clause-state : goal.returns-clause-state
returns-clause-state c =
    let hand = c.args.self.now.hand in
    c.in_ok-read.ensures.state
    ∙ ap (read_up_to c.args.sizes.read)
    (ap₂ (λ (h : HandState) (n : ℕ). record { read = h.read; queued = h.queued; lost = c.args.self.now.lost + n }) c.supply-supplied.ensures.state c.from.ensures
    ∙ supply_state hand.size c.args.sizes.room c.supply-supplied.result.put c.supply-supplied.result.lost c.args.self.now.lost hand.read hand.queued c.args.frames.now c.requires.tape.size c.supply-supplied.ensures.put c.supply-supplied.ensures.sum)
