-- Basic lemmas that several files here, and of the crates above, cite.
use Rattle.std.proofs.Common.{Err, IsErrOf}
use Rattle.af_playing.specs.declared.answering.PlayFault.TheVariants as fault
use Rattle.af_playing.specs.declared.answering.PlayFault.{PlayFault}

pub no_want : {T : Type 0} → IsErrOf {T = T} {E = PlayFault} (Err fault.Memory) fault.Store → ⊥
no_want {T} h = let x : ⊥ = cc in x
