-- A handle may go to another thread, as what it leads to may.
use mathlib.Core.Bool.{Bool, true, false}
use mir.Raw.{raw}
use base.Fml.{Fml}
use base.Shift.{Keyless}
use denote.Memory.{lone}
use denote.Builtin.{RawPtr, u64}
use denote.Param.Send.{IsSend, owning_send, struct_send, sendable}
use denote.Struct.Struct.{exits_of}
use denote.Struct.Owning.{shape, fields, to}
use Rattle.std.specs.Prelude.{◌==◌}
use Rattle.std.specs.contracts.impls.GlobalAllocator.TheImpl.{ghosts}
use Rattle.std.proofs.Crossing.{frees}
use Rattle.std_alloc.specs.Box.Ownership.{box_owns}
use Rattle.std_alloc.proofs.SendSync.{quiet, lies}
use Rattle.zeldorgacs.specs.Owning.{owned_if, heap}
use Rattle.zeldorgacs.specs.contracts.kept.Kept as kept
use Rattle.zeldorgacs.proofs.kept.Kept.TheSendSync.{the_send as kept_send}
use Rattle.zeldorgacs.specs.contracts.handle.Handle.{the_row, the_type}

crosses_if : (y : Bool) (F : Fml) → Keyless F → Keyless (owned_if y F)
crosses_if true F k = k
crosses_if false F k = tt

pub send : IsSend the_row
send = let pu : IsSend u64 = search sendable in let pp : IsSend RawPtr = search sendable in
    owning_send the_type (pu, (pp, tt)) (λ d. crosses_if (d.tag == 1) (box_owns (ghosts.dealloc_token heap) kept.the_row d.at d.value) (lies kept.the_row kept_send d.at d.value, frees.frees heap (raw (lone kept.the_row.mir)) d.at))
    (λ k. quiet (to the_type) (exits_of k (fields the_type)) ((struct_send (shape the_type) (pu, (pp, tt))).leaving k))
