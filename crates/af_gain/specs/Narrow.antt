-- Sums in lanes of 32 bits.
use Rattle.std.specs.Prelude.{◌≡◌, ℕ, ◌+◌, ◌<◌, ℤ, pos, Bool, List, [], ◌∷◌, length, slice_index_or}
use Rattle.af_base.specs.declared.frame.Frame.{Frame}
use Rattle.af_base.specs.declared.plain.Part.{Part}
use Rattle.af_base.specs.Gain.{gains_used}
use Rattle.af_base.specs.Mix.{Take, frame_at, mixed_frame}
use Rattle.af_base.specs.Part.{no_part}
use Rattle.af_gain.specs.declared.sums.Sum.{Sum}
use Rattle.af_gain.specs.Sums.{IsWithin, sum_of}

-- two sums as the lanes of a vector
abbrev pub lanes_of : Sum → Sum → List ℤ
lanes_of first second = first.left ∷ first.right ∷ second.left ∷ second.right ∷ []

-- the gains of both sides, once for each of two sums
abbrev pub gain_lanes : ℕ × ℕ → List ℤ
gain_lanes gains = pos gains.0 ∷ pos gains.1 ∷ pos gains.0 ∷ pos gains.1 ∷ []

-- the gains of the first so many takes
abbrev pub AreGainsOf : ℕ → List Part → List (ℕ × ℕ) → Type 0
AreGainsOf count parts gains = (k : ℕ) → k < count → slice_index_or gains k (0, 0) ≡ gains_used (slice_index_or parts k no_part).gains (slice_index_or parts k no_part).scale

-- the sums of some takes at a position and the next one, each no further from 0 than the takes can bring it
pub record AreLanesOf (takes : List Take) (at : ℕ) (lanes : List ℤ) : Type 0 where
  pub are : lanes ≡ lanes_of (sum_of takes at) (sum_of takes (at + 1))
  pub first : IsWithin (length takes) (sum_of takes at)
  pub second : IsWithin (length takes) (sum_of takes (at + 1))

-- eight frames are those from a position on
abbrev pub AreFrom : List Frame → ℕ → List Frame → Type 0
AreFrom frames at eight = (k : ℕ) → k < 8 → frame_at eight k ≡ frame_at frames (at + k)

-- a take is heard from a position on as eight frames, mono or not, at these gains
pub record IsHeardAs (t : Take) (at : ℕ) (eight : List Frame) (mono : Bool) (gains : ℕ × ℕ) : Type 0 where
  pub frames : AreFrom t.frames at eight
  pub same : mono ≡ t.mono
  pub used : gains ≡ gains_used t.gains t.scale

-- the frames before a place are the mix
abbrev pub AreMixedTo : ℕ → List Take → List Frame → Type 0
AreMixedTo end takes out = (k : ℕ) → k < end → frame_at out k ≡ mixed_frame takes k
