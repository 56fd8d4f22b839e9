-- What every script keeps.
use Rattle.std.specs.Prelude.{◌≡◌, ℕ, ◌+◌, ◌*◌, ◌<◌, ◌≤◌, true, false, length, All}
use Rattle.af_script.specs.Bounds.{most_version, most_frames, most_normal, most_cycles, most_product, most_tracks, most_buffer, most_base, unity_scale, most_ops, most_turns, most_gain, most_write, most_value, most_fast, header_words, command_frames}
use Rattle.af_script.specs.Text.{is_name}
use Rattle.af_script.specs.Ops.{words_of, are_whole, fast_cycles}
use Rattle.af_script.specs.Data.{ScriptData}
use Rattle.af_script.specs.declared.op.Op.{Op}
use Rattle.af_script.specs.declared.op.Op.TheVariants.{Gain, Write, Poke}
use Rattle.af_script.specs.declared.op.TurnSpec.{TurnSpec}
use Rattle.af_script.specs.declared.op.TurnSpec.TheVariants.{Client, Normal, Fast}
use Rattle.af_script.specs.declared.track.TrackSpec.{TrackSpec}

-- the numbers of an op of a track of so many frames
abbrev pub HasOpNumbers : ℕ → Op → Type 0
HasOpNumbers frames (Gain left right) = (left ≤ most_gain) × (right ≤ most_gain)
HasOpNumbers frames (Write count) = (1 ≤ count) × (count ≤ most_write)
HasOpNumbers frames (Poke false word value) = (word < words_of frames) × (value ≤ most_value)
HasOpNumbers frames (Poke true word value) = (word < header_words + command_frames) × (value ≤ most_value)
HasOpNumbers frames _ = Unit {0}

-- a track's ranges, name and ops
pub record IsTrack (track : TrackSpec) : Type 0 where
  pub buffer : (1 ≤ track.frames) × (track.frames ≤ most_buffer)
  pub base : track.base ≤ most_base
  pub scale : track.scale ≤ unity_scale
  pub name : is_name track.file ≡ true
  pub whole : are_whole track.ops ≡ true
  pub count : length track.ops ≤ most_ops + 1
  pub numbers : All (HasOpNumbers track.frames) track.ops

-- a client's track is one of so many, and a fast turn has 1 to 16 cycles
abbrev pub IsTurn : ℕ → TurnSpec → Type 0
IsTurn tracks (Client track) = track < tracks
IsTurn tracks Normal = Unit {0}
IsTurn tracks (Fast cycles) = (1 ≤ cycles) × (cycles ≤ most_fast)

-- a script's ranges, limits and forms
pub record IsScript (script : ScriptData) : Type 0 where
  pub version : (1 ≤ script.version) × (script.version ≤ most_version)
  pub frames : (1 ≤ script.frames) × (script.frames ≤ most_frames)
  pub normal : (1 ≤ script.normal) × (script.normal ≤ most_normal)
  pub cycles : (1 ≤ script.cycles) × (script.cycles ≤ most_cycles)
  pub product : script.cycles * script.frames ≤ most_product
  pub track_count : (1 ≤ length script.tracks) × (length script.tracks ≤ most_tracks)
  pub tracks : All IsTrack script.tracks
  pub turn_count : length script.turns ≤ most_turns
  pub turns : All (IsTurn (length script.tracks)) script.turns
  pub asked : fast_cycles script.turns ≤ script.cycles
