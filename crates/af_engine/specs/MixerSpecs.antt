-- What a mixer is made of, and which numbers fit.
use Rattle.std.specs.Prelude.{◌≡◌, ◌⊎◌, ℕ, ◌*◌, ◌^◌, ◌<◌, ◌≤◌, List, All, length, map, slice_get, Some}
use Rattle.af_life.specs.declared.kept.Setting.{Setting}
use Rattle.af_life.specs.Kept.{Setup}
use Rattle.af_engine.specs.declared.spec.EngineTrack.{EngineTrack}
use Rattle.af_engine.specs.declared.spec.MakeError.{MakeError}
use Rattle.af_engine.specs.declared.spec.MakeError.TheVariants as makes
use Rattle.af_engine.specs.declared.spec.MixerSpec.{MixerSpec}
use Rattle.af_engine.specs.declared.spec.SpecError.{SpecError}
use Rattle.af_engine.specs.declared.spec.SpecError.TheVariants as bad

-- a track fits: it has 1 to 8192 frames, and a scale of at most 1
pub record IsEngineTrack (t : EngineTrack) : Type 0 where
  pub frames : (1 ≤ t.frames) × (t.frames ≤ 8192)
  pub scale : t.scale ≤ 4096

-- a spec fits: 1 to 1024 frames a cycle, 1 to 16 cycles a normal buffer, a log of 1 to 100000 cycles and of at most 2^21 frames, and 1 to 32 tracks
pub record IsMixerSpec (spec : MixerSpec) : Type 0 where
  pub frames : (1 ≤ spec.frames) × (spec.frames ≤ 1024)
  pub normal : (1 ≤ spec.normal) × (spec.normal ≤ 16)
  pub cycles : (1 ≤ spec.cycles) × (spec.cycles ≤ 100000)
  pub log : spec.cycles * spec.frames ≤ 2 ^ 21
  pub count : (1 ≤ length spec.tracks.now) × (length spec.tracks.now ≤ 32)
  pub tracks : All IsEngineTrack spec.tracks.now

-- a number is below the first of these or above the last
abbrev pub IsOutside : ℕ → ℕ → ℕ → Type 0
IsOutside first last n = (n < first) ⊎ (last < n)

-- the track of this number has this property
abbrev pub HasTrack : List EngineTrack → ℕ → (EngineTrack → Type 0) → Type 0
HasTrack tracks number is = (t : EngineTrack) × (slice_get tracks number ≡ Some t) × is t

-- what a refusal of a spec says of it
abbrev pub IsCause : SpecError → MixerSpec → Type 0
IsCause bad.Frames spec = IsOutside 1 1024 spec.frames
IsCause bad.Normal spec = IsOutside 1 16 spec.normal
IsCause bad.Cycles spec = IsOutside 1 100000 spec.cycles
IsCause bad.Log spec = 2 ^ 21 < spec.cycles * spec.frames
IsCause bad.Tracks spec = IsOutside 1 32 (length spec.tracks.now)
IsCause (bad.TrackFrames track) spec = HasTrack spec.tracks.now track (λ t. IsOutside 1 8192 t.frames)
IsCause (bad.TrackScale track) spec = HasTrack spec.tracks.now track (λ t. 4096 < t.scale)

-- what a refusal to make a mixer says of its spec, which fits if memory was short
abbrev pub IsMakeCause : MakeError → MixerSpec → Type 0
IsMakeCause (makes.Spec error) spec = IsCause error spec
IsMakeCause makes.Memory spec = IsMixerSpec spec

-- how a track is mixed
abbrev pub setting_of : EngineTrack → Setting
setting_of t = record { fast = t.fast; mono = t.mono; scale = t.scale }

-- what the normal mixer is made of
abbrev pub setup_of : MixerSpec → Setup
setup_of spec = record { frames = spec.frames; normal = spec.normal; settings = map setting_of spec.tracks.now }
