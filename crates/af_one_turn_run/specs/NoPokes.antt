-- Scripts without pokes.
use Rattle.std.specs.Prelude.{◌≡◌, Bool, true, false, List, [], ◌∷◌}
use Rattle.af_script.specs.declared.op.Op.{Op}
use Rattle.af_script.specs.declared.op.Op.TheVariants as op
use Rattle.af_script.specs.declared.track.TrackSpec.{TrackSpec}

abbrev pub is_poke_op : Op → Bool
is_poke_op (op.Poke in_command word value) = true
is_poke_op _ = false

-- none of these ops is a poke
abbrev pub PlainOps : List Op → Type 0
PlainOps [] = Unit {0}
PlainOps (o ∷ ops) = (is_poke_op o ≡ false) × PlainOps ops

-- no op of these tracks is a poke
abbrev pub PlainTracks : List TrackSpec → Type 0
PlainTracks [] = Unit {0}
PlainTracks (track ∷ tracks) = PlainOps track.ops × PlainTracks tracks
