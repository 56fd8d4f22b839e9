-- The text that a script is printed as: a document whose keys stand in the order of the alphabet, as `toml` writes one.
use Rattle.std.specs.Prelude.{ℕ, Bool, true, false, if◌then◌else◌, List, [], ◌∷◌, ◌++◌, take, flat_map, codes, decimal}
use Rattle.af_script.specs.Bounds.{most_ops}
use Rattle.af_script.specs.Tree.{key_text}
use Rattle.af_script.specs.Data.{ScriptData}
use Rattle.af_script.specs.declared.op.Op.{Op}
use Rattle.af_script.specs.declared.op.Op.TheVariants.{OpenTrack, Start, Pause, Stop, Flush, Drain, Remove, Yield, Gain, Write, Poke}
use Rattle.af_script.specs.declared.op.TurnSpec.{TurnSpec}
use Rattle.af_script.specs.declared.op.TurnSpec.TheVariants.{Client, Normal, Fast}
use Rattle.af_script.specs.declared.track.TrackSpec.{TrackSpec}
use Rattle.af_script.specs.declared.fault.KeyId.{KeyId}
use Rattle.af_script.specs.declared.fault.KeyId.TheVariants as key

-- ## Words

-- an op
abbrev pub op_text : Op → List ℕ
op_text OpenTrack = codes "open"
op_text Start = codes "start"
op_text Pause = codes "pause"
op_text Stop = codes "stop"
op_text Flush = codes "flush"
op_text Drain = codes "drain"
op_text Remove = codes "remove"
op_text Yield = codes "yield"
op_text (Gain left right) = codes "gain " ++ (decimal left ++ (codes " " ++ decimal right))
op_text (Write count) = codes "write " ++ decimal count
op_text (Poke false word value) = codes "poke stream " ++ (decimal word ++ (codes " " ++ decimal value))
op_text (Poke true word value) = codes "poke command " ++ (decimal word ++ (codes " " ++ decimal value))

-- a turn
abbrev pub turn_text : TurnSpec → List ℕ
turn_text (Client track) = codes "c " ++ decimal track
turn_text Normal = codes "n"
turn_text (Fast cycles) = codes "f " ++ decimal cycles

-- the kind of a track
abbrev pub kind_text : Bool → List ℕ
kind_text fast = if fast then codes "fast" else codes "normal"

-- the channels of a track's file
abbrev pub channels_of : Bool → ℕ
channels_of mono = if mono then 1 else 2

-- the ops that are written: `remove` counts there, so after 4096 others it is left to the reader
abbrev pub written_ops : List Op → List Op
written_ops ops = take most_ops ops

-- ## Lines

-- a text in quotes
abbrev pub quoted : List ℕ → List ℕ
quoted text = codes "\"" ++ (text ++ codes "\"")

-- the texts of some things in an array
abbrev pub array_text : {X : Type 0} → (X → List ℕ) → List X → List ℕ
array_text text [] = codes "[]"
array_text text (x ∷ xs) = codes "[" ++ (quoted (text x) ++ (flat_map (λ y. codes ", " ++ quoted (text y)) xs ++ codes "]"))

-- a key and what it is given
unfoldable pub pair_line : KeyId → List ℕ → List ℕ
pair_line id value = key_text id ++ (codes " = " ++ (value ++ codes "\n"))

abbrev pub number_line : KeyId → ℕ → List ℕ
number_line id n = pair_line id (decimal n)

abbrev pub text_line : KeyId → List ℕ → List ℕ
text_line id text = pair_line id (quoted text)

-- ## A script

-- the top table
unfoldable pub top_text : ScriptData → List ℕ
top_text s =
    number_line key.Cycles s.cycles
    ++ (number_line key.Frames s.frames
    ++ (number_line key.Normal s.normal
    ++ (pair_line key.Turns (array_text turn_text s.turns)
    ++ number_line key.Version s.version)))

-- what a track reads: where it starts, its file and its buffer
unfoldable pub source_text : TrackSpec → List ℕ
source_text t =
    number_line key.Base t.base
    ++ (number_line key.Channels (channels_of t.mono)
    ++ (text_line key.File t.file
    ++ number_line key.Frames t.frames))

-- what is done with a track: its kind, its ops and its scale
unfoldable pub use_text : TrackSpec → List ℕ
use_text t =
    text_line key.Kind (kind_text t.fast)
    ++ (pair_line key.Ops (array_text op_text (written_ops t.ops))
    ++ number_line key.Scale t.scale)

-- a track, under a header of its own
unfoldable pub track_text : TrackSpec → List ℕ
track_text t = codes "\n[[track]]\n" ++ (source_text t ++ use_text t)

-- the whole text
abbrev pub printed_script : ScriptData → List ℕ
printed_script s = top_text s ++ flat_map track_text s.tracks
