use Rattle.std.proofs.Common.{◌≡◌, false, take}
use Rattle.af_audit.proofs.Common.{calls_in, is_poke_on, list_any}
use Rattle.af_audit.proofs.run_judge.is_lawful.Given as goal

abbrev pub invariant-loop-round : goal.invariant-loop-round
invariant-loop-round l = list_any (λ round. list_any (is_poke_on l.commands) (calls_in round l.track)) (take l.round l.journal.rounds) ≡ false
