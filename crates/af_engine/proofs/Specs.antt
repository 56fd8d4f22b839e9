-- A spec that fits gives no cause to refuse it.
use Rattle.std.proofs.Common.{◌≡◌, ℕ, ◌≤◌, inl, inr, subst, slice_get, Some, arith}
use Rattle.af_engine.proofs.Common.{EngineTrack, IsCause, IsEngineTrack, IsMixerSpec, IsOutside, MixerSpec, get_or_from_slice_get, slice_get_within}
use Rattle.af_engine.specs.declared.spec.SpecError.{SpecError}
use Rattle.af_engine.specs.declared.spec.SpecError.TheVariants as bad

within_not_outside : (first last n : ℕ) → first ≤ n → n ≤ last → IsOutside first last n → ⊥
within_not_outside first last n low high (inl below) = omega (arith, low, below)
within_not_outside first last n low high (inr above) = omega (arith, high, above)

fits_at : (spec : MixerSpec) (i : ℕ) (t : EngineTrack) → IsMixerSpec spec → slice_get spec.tracks.now i ≡ Some t → IsEngineTrack t
fits_at spec i t fits is = subst IsEngineTrack (get_or_from_slice_get spec.tracks.now i t t is) (fits.tracks i t (slice_get_within spec.tracks.now i t is))

pub no_cause : (spec : MixerSpec) (error : SpecError) → IsMixerSpec spec → IsCause error spec → ⊥
no_cause spec bad.Frames fits cause = within_not_outside 1 1024 spec.frames fits.frames.0 fits.frames.1 cause
no_cause spec bad.Normal fits cause = within_not_outside 1 16 spec.normal fits.normal.0 fits.normal.1 cause
no_cause spec bad.Cycles fits cause = within_not_outside 1 100000 spec.cycles fits.cycles.0 fits.cycles.1 cause
no_cause spec bad.Log fits cause = let most = fits.log in omega (arith, most, cause)
no_cause spec bad.Tracks fits cause = within_not_outside 1 32 _ fits.count.0 fits.count.1 cause
no_cause spec (bad.TrackFrames track) fits cause = let one = fits_at spec track cause.0 fits cause.1 in within_not_outside 1 8192 cause.0.frames one.frames.0 one.frames.1 cause.2
no_cause spec (bad.TrackScale track) fits cause = let one = (fits_at spec track cause.0 fits cause.1).scale in let above = cause.2 in omega (arith, one, above)
