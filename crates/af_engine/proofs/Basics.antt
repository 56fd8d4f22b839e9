-- Basic lemmas that several files here, and of the crates above, cite.
use Rattle.std.proofs.Common.{None, Option, Some, is_some, refl, sym, true, true≢false, ◌≡◌}
use Rattle.af_engine.proofs.Common.{ServerState}

pub some_of : (o : Option ServerState) → is_some o ≡ true → (s : ServerState) × (o ≡ Some s)
some_of None e = absurd (true≢false (sym e))
some_of (Some s) e = (s, refl)
