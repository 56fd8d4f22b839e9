-- A client whose ops play through: what it still has to do, and what may be answered.
use Rattle.std.proofs.Common.{◌≡◌, ℕ, ◌+◌, ◌≤◌, ◌<◌, ◌==◌, true, false, List, [], ◌∷◌, bit_and}
use Rattle.af_enough_law.proofs.Common.{ClientCall, Op, Mode, Want, client_kept, wrapped, state_in, Side, Track, after_call, most_gains}
use Rattle.af_base.specs.declared.event.ClientCall.TheVariants as call
use Rattle.af_script.specs.declared.op.Op.TheVariants as op
use Rattle.af_runs.specs.declared.want.ClientCommand.TheVariants as command
use Rattle.af_runs.specs.declared.want.Mode.TheVariants as mode
use Rattle.af_runs.specs.declared.want.Want.TheVariants as want

-- gains and writes of some frames, and then a stop, a drain and a removal, if so many gains stand directly before
abbrev pub IsWay : ℕ → List Op → Type 0
IsWay gains (op.Gain left right ∷ ops) = (gains < most_gains) × IsWay (gains + 1) ops
IsWay gains (op.Write count ∷ ops) = (1 ≤ count) × IsWay 0 ops
IsWay gains (op.Stop ∷ op.Drain ∷ op.Remove ∷ []) = Unit {0}
IsWay gains _ = ⊥

-- What is due of the op in work, the ops after it, and the mode
pub data Doing : List Want → List Op → Mode → Type 0 where
  opening : (ops : List Op) → IsWay 0 ops → Doing (want.Send command.Open ∷ []) (op.Start ∷ ops) mode.Idle
  starting : (ops : List Op) → IsWay 0 ops → Doing (want.Send command.Start ∷ want.Settled ∷ []) ops mode.Idle
  settling : (ops : List Op) → IsWay 0 ops → Doing (want.Settled ∷ []) ops mode.Active
  setting : (left right gains : ℕ) (ops : List Op) → IsWay gains ops → Doing (want.Gain left right ∷ []) ops mode.Active
  writing : (count : ℕ) (ops : List Op) → 1 ≤ count → IsWay 0 ops → Doing (want.Write count ∷ []) ops mode.Active
  clearing : (ops : List Op) → IsWay 0 ops → Doing (want.Clear ∷ []) ops mode.Active
  clearing_more : (count : ℕ) (ops : List Op) → 1 ≤ count → IsWay 0 ops → Doing (want.Clear ∷ want.Write count ∷ []) ops mode.Active
  stopping : Doing (want.Send command.Stop ∷ []) (op.Drain ∷ op.Remove ∷ []) mode.Active
  draining : Doing (want.Drained ∷ []) (op.Remove ∷ []) mode.Stopped
  removing : Doing (want.Send command.Remove ∷ []) [] mode.Stopped

-- ## What is left of the gains, the writes and the stop

-- 1 if a gain, a write or the stop is in work
abbrev pub due_ops : List Want → ℕ
due_ops [] = 0
due_ops (want.Gain left right ∷ wants) = 1
due_ops (want.Write count ∷ wants) = 1
due_ops (want.Clear ∷ wants) = due_ops wants
due_ops (want.Send command.Stop ∷ wants) = 1
due_ops (_ ∷ wants) = 0

-- the frames of the write in work
abbrev pub due_frames : List Want → ℕ
due_frames [] = 0
due_frames (want.Write count ∷ wants) = count
due_frames (want.Clear ∷ wants) = due_frames wants
due_frames (_ ∷ wants) = 0

abbrev pub is_way_op : Op → ℕ
is_way_op (op.Gain left right) = 1
is_way_op (op.Write count) = 1
is_way_op op.Stop = 1
is_way_op _ = 0

abbrev pub frames_of : Op → ℕ
frames_of (op.Write count) = count
frames_of _ = 0

-- the ops ahead, and the frames of their writes
abbrev pub way_ops : List Op → ℕ
way_ops [] = 0
way_ops (o ∷ ops) = is_way_op o + way_ops ops

abbrev pub way_frames : List Op → ℕ
way_frames [] = 0
way_frames (o ∷ ops) = frames_of o + way_frames ops

-- ## What is answered in a run without pokes whose tracks are never disabled

-- no block is found dead, corrupt or full of commands, DISABLED isn't set, and no track is shut
abbrev pub IsFair : ClientCall → Type 0
IsFair (call.Put front count) = Unit {0}
IsFair (call.Full front) = Unit {0}
IsFair (call.Cleared flags) = (bit_and flags 8 == 0) ≡ true
IsFair (call.Gain word) = Unit {0}
IsFair (call.Sent front code argument) = Unit {0}
IsFair (call.Status word) = (state_in word == 15) ≡ false
IsFair _ = ⊥

abbrev pub AreFair : List ClientCall → Type 0
AreFair [] = Unit {0}
AreFair (answer ∷ calls) = IsFair answer × AreFair calls

-- ## What is seen of the front

-- the position up to which a client's side released
abbrev pub position : Side → ℕ
position b = (client_kept b.shape.frames b.shape.base b.events).position

-- A front that a write sees is the word of a position that isn't before this one, nor past what was released
abbrev pub SeesFrom : ℕ → Track → ClientCall → Type 0
SeesFrom from t (call.Put front count) = (at : ℕ) × (front ≡ wrapped at) × (from ≤ at) × (at ≤ position t.stream)
SeesFrom from t (call.Full front) = (at : ℕ) × (front ≡ wrapped at) × (from ≤ at) × (at ≤ position t.stream)
SeesFrom from t _ = Unit {0}

-- A front that a write of a turn sees is the word of a position that isn't before this one, nor past what was released
abbrev pub AllSeeFrom : ℕ → Track → List ClientCall → Type 0
AllSeeFrom from t [] = Unit {0}
AllSeeFrom from t (answer ∷ calls) = SeesFrom from t answer × AllSeeFrom from (after_call t answer) calls
