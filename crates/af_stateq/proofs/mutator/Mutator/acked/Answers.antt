use mathlib.Core.Logic.{dite}
use native.Mathlib.Decide.{ℕ_discrete}
use Rattle.af_stateq.specs.Shelved.{word}
use Rattle.af_stateq.proofs.Acks.{same_looked}
use Rattle.af_stateq.proofs.mutator.Mutator.acked.Goals as goal

pub returns-clause-same : goal.returns-clause-same
returns-clause-same g c =
    let m = c.args.self.now in
    dite (ℕ_discrete c.see_ack.result (word m.past.number))
    (λ hit. same_looked m c.see_ack.new.self _ _ _ (c.see_ack.ensures.seen hit).0.1)
    (λ miss. same_looked m c.see_ack.new.self _ _ _ (c.see_ack.ensures.older miss).2.2)
