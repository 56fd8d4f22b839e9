-- Frames are told by their words.
use Rattle.std.proofs.Common.{◌≡◌, ◌+◌, ◌*◌, ℤ, map, List, [], ◌∷◌, drop, length, All, refl, sym, ap, ◌∙◌, arith}
use Rattle.af_one_turn_run.proofs.Common.{All-head, All-tail, Frame, IsFrame, few, packed_word, slice_index_or}
use Rattle.std.specs.Int.{w16, cast_unsigned, cast_signed}
use Rattle.std.specs.Int.RustNames.{FitsSigned}
use Rattle.std.proofs.lemmas.Int.{to_z-of_z}

word_of : (frame : Frame) → IsFrame frame → packed_word frame ≡ cast_unsigned w16 frame.left + 65536 * cast_unsigned w16 frame.right
word_of frame is = let l = few frame.left is.left in let r = few frame.right is.right in omega (arith, l, r)

same_sample : (a b : ℤ) → FitsSigned w16 a → FitsSigned w16 b → cast_unsigned w16 a ≡ cast_unsigned w16 b → a ≡ b
same_sample a b fits fits_b same = sym (to_z-of_z w16 a fits) ∙ ap (cast_signed w16) same ∙ to_z-of_z w16 b fits_b

pub one_frame : (a b : Frame) → IsFrame a → IsFrame b → packed_word a ≡ packed_word b → a ≡ b
one_frame a b is is_b same =
    let sums : cast_unsigned w16 a.left + 65536 * cast_unsigned w16 a.right ≡ cast_unsigned w16 b.left + 65536 * cast_unsigned w16 b.right = sym (word_of a is) ∙ same ∙ word_of b is_b in
    let l = few a.left is.left in
    let m = few b.left is_b.left in
    let left = same_sample a.left b.left is.left is_b.left (omega (arith, sums, l, m)) in
    let right = same_sample a.right b.right is.right is_b.right (omega (arith, sums, l, m)) in
    λ i. let f : Frame = record { left = left i; right = right i } in f

pub one_frames : (xs ys : List Frame) → All IsFrame xs → All IsFrame ys → map packed_word xs ≡ map packed_word ys → xs ≡ ys
one_frames [] [] all all_ys same = refl
one_frames [] (y ∷ ys) all all_ys same = absurd (let z : ⊥ = (let n : 0 ≡ length (map packed_word (y ∷ ys)) = ap length same in omega (arith, n)) in z)
one_frames (x ∷ xs) [] all all_ys same = absurd (let z : ⊥ = (let n : length (map packed_word (x ∷ xs)) ≡ 0 = ap length same in omega (arith, n)) in z)
one_frames (x ∷ xs) (y ∷ ys) all all_ys same =
    let first = one_frame x y (All-head IsFrame x xs all) (All-head IsFrame y ys all_ys) (ap (λ l. slice_index_or l 0 0) same) in
    let rest = one_frames xs ys (All-tail IsFrame x xs all) (All-tail IsFrame y ys all_ys) (ap (drop 1) same) in
    λ i. first i ∷ rest i
