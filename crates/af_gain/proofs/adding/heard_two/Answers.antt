-- A lane of 16 bits is the same number in 32.
use Rattle.std.proofs.Common.{rules, ◌+◌, ℤ, FitsSigned, w16, w32, to_z, of_z, subst, sym, arith}
use Rattle.af_gain.proofs.Common.{frame_at, to_z-of_z}
use Rattle.af_gain.proofs.adding.heard_two.Goals as goal

wider : (sample : ℤ) → FitsSigned w16 sample → FitsSigned w32 (to_z w16 (of_z w16 sample))
wider sample fits = subst (λ (z : ℤ). FitsSigned w32 z) (sym (to_z-of_z w16 sample fits)) (record { sfits = omega (arith, fits.sfits) })

pub overflow_cast-samples : goal.overflow_cast-samples
overflow_cast-samples c =
    let a : FitsSigned w16 (frame_at c.args.frames.now c.args.at).left = search rules in
    let b : FitsSigned w16 (frame_at c.args.frames.now c.args.at).right = search rules in
    let d : FitsSigned w16 (frame_at c.args.frames.now (c.args.at + 1)).left = search rules in
    let e : FitsSigned w16 (frame_at c.args.frames.now (c.args.at + 1)).right = search rules in
    (wider _ a, (wider _ b, (wider _ d, (wider _ e, tt))))
