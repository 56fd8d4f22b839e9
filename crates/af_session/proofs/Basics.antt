-- Basic lemmas that several files here, and of the crates above, cite.
use Rattle.std.proofs.Common.{None, Option, Some, option_map, refl, ◌≡◌}
use Rattle.af_session.proofs.Common.{PartyState, calls_in, end_party}

pub calls_end : (o : Option PartyState) → calls_in (option_map end_party o) ≡ calls_in o
calls_end None = refl
calls_end (Some p) = refl
