-- What the program loads of a script and its tracks.
use Rattle.std.specs.Prelude.{ℕ, ◌≤◌, List, [], ◌∷◌, length}
use Rattle.af_base.specs.declared.frame.Frame.{Frame}
use Rattle.af_party.specs.Works.{frames_to_come}
use Rattle.af_script.specs.declared.op.Op.{Op}
use Rattle.af_script.specs.declared.track.TrackSpec.{TrackSpec}
use Rattle.af_offline.specs.declared.load.Loaded.{Loaded}
use Rattle.af_offline.specs.declared.load.TrackFile.{TrackFile}
use Rattle.af_runs.specs.Sessions.{Session}

-- the frames of a file, and the bytes of the files up to it
abbrev pub file_view : TrackFile → List Frame × ℕ
file_view file = (file.pcm, file.total)

-- a script, with the frames of its tracks' files
abbrev pub loaded_view : Loaded → Session
loaded_view l = record { script = l.script; files = l.files.items }

-- a file has the frames that these ops write, and not too many
abbrev pub Serves : List Op → List Frame → Type 0
Serves ops file = (frames_to_come ops ≤ length file) × (length file ≤ 4194304)

-- each of these tracks has its file
abbrev pub AreServed : List TrackSpec → List (List Frame) → Type 0
AreServed [] [] = Unit {0}
AreServed (track ∷ tracks) (file ∷ files) = Serves track.ops file × AreServed tracks files
AreServed tracks files = ⊥

-- each track has its file
abbrev pub AreFilesFor : Loaded → Type 0
AreFilesFor l = AreServed l.script.tracks l.files.items
