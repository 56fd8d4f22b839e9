-- The left sample of a frame, read off its word: shifted up over the right half and back, it is the sample.
use Rattle.std.proofs.Common.{◌≡◌, ℕ, suc, ◌+◌, ◌-◌, ◌*◌, ◌/◌, ◌%◌, ◌<◌, ℤ, pos, negsuc, FitsSigned, w16, w32, to_z, of_z, ap, ◌∙◌, arith}
use Rattle.af_gain.proofs.Common.{Fits-of_z, Frame, to_z-neg, to_z-of_z, to_z_pos}
use Rattle.std.specs.Int.Signed.{shr_z}
use Rattle.af_base.specs.Sample.{IsFrame, packed_word}

-- a lane of words, shifted up by 16 bits and back
abbrev pub back : ℕ → ℤ
back word = to_z w32 (of_z w32 (shr_z (to_z w32 (word * 65536 % 4294967296)) 65536))

left_back : (left : ℤ) (right : ℕ) → FitsSigned w16 left → back (of_z w16 left + 65536 * right) ≡ left
left_back (pos n) right fits =
    let small : n < 32768 = omega (arith, fits.sfits) in
    let up : (n + 65536 * right) * 65536 % 4294967296 ≡ n * 65536 = omega arith in
    let down : n * 65536 / 65536 ≡ n = omega arith in
    ap (λ (m : ℕ). to_z w32 (of_z w32 (shr_z (to_z w32 m) 65536))) up
    ∙ ap (λ (z : ℤ). to_z w32 (of_z w32 (shr_z z 65536))) (to_z_pos w32 (n * 65536) (omega arith))
    ∙ ap (λ (m : ℕ). to_z w32 (of_z w32 (pos m))) down
    ∙ to_z_pos w32 n (omega arith)
left_back (negsuc k) right fits =
    let small : k < 32768 = omega (arith, fits.sfits) in
    let wider : FitsSigned w32 (negsuc k) = record { sfits = omega arith } in
    let up : (65536 - suc k + 65536 * right) * 65536 % 4294967296 ≡ 4294967296 - suc (65536 * k + 65535) = omega arith in
    let down : (65536 * k + 65535) / 65536 ≡ k = omega arith in
    ap (λ (m : ℕ). to_z w32 (of_z w32 (shr_z (to_z w32 m) 65536))) up
    ∙ ap (λ (z : ℤ). to_z w32 (of_z w32 (shr_z z 65536))) (to_z-neg w32 (65536 * k + 65535) (omega arith))
    ∙ ap (λ (m : ℕ). to_z w32 (of_z w32 (negsuc m))) down
    ∙ to_z-of_z w32 (negsuc k) wider

packed : (left right : ℕ) → left < 65536 → right < 65536 → left % 256 + 256 * (left / 256 % 256 + 256 * (right % 256 + 256 * (right / 256 % 256 + 256 * 0))) ≡ left + 65536 * right
packed left right l r = omega arith

-- the sample in the word of its frame
pub sample_back : (frame : Frame) → IsFrame frame → back (packed_word frame) ≡ frame.left
sample_back frame is =
    let left = (Fits-of_z {w = w16} {z = frame.left} is.left).fits in
    let right = (Fits-of_z {w = w16} {z = frame.right} is.right).fits in
    ap back (packed (of_z w16 frame.left) (of_z w16 frame.right) left right) ∙ left_back frame.left (of_z w16 frame.right) is.left

-- the same of a word that was read as a number with a sign
pub lane_back : (frame : Frame) (z : ℤ) → IsFrame frame → of_z w32 z ≡ packed_word frame → back (of_z w32 z) ≡ frame.left
lane_back frame z fits is = ap back is ∙ sample_back frame fits
