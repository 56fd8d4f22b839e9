-- Basic lemmas that several files here, and of the crates above, cite.
use Rattle.std.proofs.Common.{Bool, [], false, if◌then◌else◌, refl, true, ℕ, ◌≡◌}
use Rattle.af_server.proofs.Common.{drops_of}
use Rattle.af_base.specs.declared.seen.Seen.TheVariants as seen

-- a look that sees the flush word 0, if 0 was kept, drops nothing
pub no_drop : (b d : Bool) (front rear count : ℕ) → drops_of (if b then seen.Shut front rear else if d then seen.Empty else seen.Frames count) front ≡ []
no_drop true d front rear count = refl
no_drop false true front rear count = refl
no_drop false false front rear count = refl
