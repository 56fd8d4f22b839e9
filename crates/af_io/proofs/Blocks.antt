-- Bytes are read a block at a time.
use Rattle.std.proofs.Common.{◌≡◌, ℕ, ◌-◌, ◌%◌, ◌≤◌, Bool, true, false, List, [], ◌∷◌, ◌++◌, length, take, drop, min, refl, ap, sym, ◌∙◌, arith, length-take}
use Rattle.std.proofs.lemmas.List.{take-append-drop}
use Rattle.af_base.specs.declared.frame.Frame.{Frame}
use Rattle.af_io.specs.Pcm.{sample_from, stereo_frames, mono_frames, frames_from, frame_width}

stereo_frames-append : (xs ys : List ℕ) → length xs % 4 ≡ 0 → stereo_frames (xs ++ ys) ≡ stereo_frames xs ++ stereo_frames ys
stereo_frames-append [] ys whole = refl
stereo_frames-append (a ∷ []) ys whole = absurd (omega arith)
stereo_frames-append (a ∷ b ∷ []) ys whole = absurd (omega arith)
stereo_frames-append (a ∷ b ∷ c ∷ []) ys whole = absurd (omega arith)
stereo_frames-append (a ∷ b ∷ c ∷ d ∷ rest) ys whole =
    ap (λ (frames : List Frame). record { left = sample_from a b; right = sample_from c d } ∷ frames) (stereo_frames-append rest ys (omega arith))

mono_frames-append : (xs ys : List ℕ) → length xs % 2 ≡ 0 → mono_frames (xs ++ ys) ≡ mono_frames xs ++ mono_frames ys
mono_frames-append [] ys whole = refl
mono_frames-append (a ∷ []) ys whole = absurd (omega arith)
mono_frames-append (a ∷ b ∷ rest) ys whole =
    ap (λ (frames : List Frame). record { left = sample_from a b; right = sample_from a b } ∷ frames) (mono_frames-append rest ys (omega arith))

frames_from-append : (mono : Bool) (xs ys : List ℕ) → length xs % frame_width mono ≡ 0 → frames_from mono (xs ++ ys) ≡ frames_from mono xs ++ frames_from mono ys
frames_from-append true xs ys whole = mono_frames-append xs ys whole
frames_from-append false xs ys whole = stereo_frames-append xs ys whole

-- a block of bytes that hold no part of a frame holds none either, and nor does the rest
pub block_whole : (mono : Bool) (all block : ℕ) → all % frame_width mono ≡ 0 → block ≡ min all 256 → block % frame_width mono ≡ 0
block_whole true all block whole is = omega arith
block_whole false all block whole is = omega arith

pub rest_whole : (mono : Bool) (all block : ℕ) → all % frame_width mono ≡ 0 → block ≡ min all 256 → (all - block) % frame_width mono ≡ 0
rest_whole true all block whole is = omega arith
rest_whole false all block whole is = omega arith

pub block_read : (mono : Bool) (bytes : List ℕ) (block : ℕ) → block ≤ length bytes → block % frame_width mono ≡ 0 → frames_from mono (take block bytes) ++ frames_from mono (drop block bytes) ≡ frames_from mono bytes
block_read mono bytes block inside whole =
    let long : length (take block bytes) ≡ block = omega (arith, length-take block bytes) in
    sym (frames_from-append mono (take block bytes) (drop block bytes) (ap (λ (n : ℕ). n % frame_width mono) long ∙ whole))
    ∙ ap (frames_from mono) (take-append-drop block bytes)
