-- Basic lemmas that several files here, and of the crates above, cite.
use Rattle.std.proofs.Common.{List, None, Option, Some, [], arith, is_some, length, refl, suc, true, zero, ℕ, ◌<◌, ◌∷◌, ◌≡◌}
use Rattle.af_normal.proofs.Common.{ServerState, no}
use Rattle.af_normal.specs.Mixing.{stream_at}

pub some_there : (o : Option ServerState) → is_some o ≡ true → (s : ServerState) × (o ≡ Some s)
some_there None e = no e
some_there (Some s) e = (s, refl)

-- a place that has a stream proxy lies within the list of the stream proxies
pub within : (streams : List (Option ServerState)) (i : ℕ) (s : ServerState) → stream_at streams i ≡ Some s → i < length streams
within [] i s here = absurd (cc)
within (x ∷ streams) zero s here = omega arith
within (x ∷ streams) (suc i) s here = let rest = within streams i s here in omega arith
