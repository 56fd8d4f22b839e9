-- The frames at the front of bytes are read from the bytes at the front.
use Rattle.std.proofs.Common.{◌≡◌, ℕ, ◌*◌, ◌/◌, ◌%◌, ◌≤◌, Bool, true, false, List, [], ◌∷◌, ◌++◌, length, take, drop, ap, sym, ◌∙◌, arith, length-take-le}
use Rattle.std.proofs.Math.Seq.{take-append_seam}
use Rattle.af_base.specs.declared.frame.Frame.{Frame}
use Rattle.af_io.specs.Pcm.{stereo_frames, mono_frames, frames_from, frame_width}
use Rattle.af_io.proofs.Blocks.{block_read}

stereo_count : (bytes : List ℕ) → length (stereo_frames bytes) ≡ length bytes / 4
stereo_count [] = omega arith
stereo_count (a ∷ []) = omega arith
stereo_count (a ∷ b ∷ []) = omega arith
stereo_count (a ∷ b ∷ c ∷ []) = omega arith
stereo_count (a ∷ b ∷ c ∷ d ∷ rest) = let more = stereo_count rest in omega arith

mono_count : (bytes : List ℕ) → length (mono_frames bytes) ≡ length bytes / 2
mono_count [] = omega arith
mono_count (a ∷ []) = omega arith
mono_count (a ∷ b ∷ rest) = let more = mono_count rest in omega arith

-- as many as fit into the bytes
pub frames_count : (mono : Bool) (bytes : List ℕ) → length (frames_from mono bytes) ≡ length bytes / frame_width mono
frames_count true bytes = mono_count bytes
frames_count false bytes = stereo_count bytes

whole_front : (mono : Bool) (count : ℕ) → (count * frame_width mono) % frame_width mono ≡ 0
whole_front true count = omega arith
whole_front false count = omega arith

exact_front : (mono : Bool) (count : ℕ) → (count * frame_width mono) / frame_width mono ≡ count
exact_front true count = omega arith
exact_front false count = omega arith

pub front_read : (mono : Bool) (bytes : List ℕ) (count : ℕ) → count * frame_width mono ≤ length bytes → frames_from mono (take (count * frame_width mono) bytes) ≡ take count (frames_from mono bytes)
front_read mono bytes count inside =
    let place : ℕ = count * frame_width mono in
    let front : List Frame = frames_from mono (take place bytes) in
    let many : length front ≡ count =
    frames_count mono (take place bytes) ∙ ap (λ (n : ℕ). n / frame_width mono) (length-take-le place bytes inside) ∙ exact_front mono count in
    sym (ap (λ (all : List Frame). take count all) (sym (block_read mono bytes place inside (whole_front mono count)))
    ∙ ap (λ (n : ℕ). take n (front ++ frames_from mono (drop place bytes))) (sym many)
    ∙ take-append_seam front (frames_from mono (drop place bytes)))
