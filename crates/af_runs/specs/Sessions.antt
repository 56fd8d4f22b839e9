-- What is played: a script, its files, and what follows from them.
use Rattle.std.specs.Prelude.{ℕ, ◌*◌, ◌==◌, if◌then◌else◌, false, List, [], map, length, slice_index_or}
use Rattle.af_base.specs.declared.frame.Frame.{Frame}
use Rattle.af_base.specs.Sample.{packed_word}
use Rattle.af_life.specs.declared.kept.Setting.{Setting}
use Rattle.af_life.specs.Kept.{Setup}
use Rattle.af_model.specs.declared.shape.Shape.{Shape}
use Rattle.af_script.specs.Data.{ScriptData}
use Rattle.af_script.specs.Ops.{cells_of}
use Rattle.af_script.specs.declared.track.TrackSpec.{TrackSpec}

-- a session: the script, and the frames of each track's file
pub record Session : Type 0 where
  pub script : ScriptData
  pub files : List (List Frame)

-- the track of a number, and one that isn't there
abbrev pub no_spec : TrackSpec
no_spec = record { fast = false; frames = 1; mono = false; base = 0; scale = 0; file = []; ops = [] }

abbrev pub spec_of : Session → ℕ → TrackSpec
spec_of s track = slice_index_or s.script.tracks track no_spec

-- how many tracks there are
abbrev pub track_count : Session → ℕ
track_count s = length s.script.tracks

-- the frames of a cycle
abbrev pub cycle_frames : Session → ℕ
cycle_frames s = s.script.frames

-- how a track is mixed
abbrev pub spec_setting : TrackSpec → Setting
spec_setting spec = record { fast = spec.fast; mono = spec.mono; scale = spec.scale }

-- what the normal mixer is made of
abbrev pub script_setup : ScriptData → Setup
script_setup script = record { frames = script.frames; normal = script.normal; settings = map spec_setting script.tracks }

abbrev pub setup_of : Session → Setup
setup_of s = script_setup s.script

-- the sizes of a track's stream block: by the second version of scripts its flush words carry positions
abbrev pub stream_shape : ℕ → TrackSpec → Shape
stream_shape version spec = record { frames = spec.frames; cells = cells_of spec.frames; base = spec.base; wrap = if version == 2 then cells_of spec.frames * 4 else 0 }

-- the sizes of each command block: it has room for 64 commands of two words
abbrev pub command_shape : Shape
command_shape = record { frames = 128; cells = 128; base = 0; wrap = 0 }

-- the words of the frames of a track's file
abbrev pub file_words : Session → ℕ → List ℕ
file_words s track = map packed_word (slice_index_or s.files track [])
