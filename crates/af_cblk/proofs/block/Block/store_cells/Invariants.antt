use Rattle.std.proofs.Common.{◌≡◌, ◌+◌, ◌-◌, ◌≤◌, length, take, map}
use Rattle.af_cblk.proofs.Common.{packed_word}
use Rattle.af_cblk.specs.Parts.{next_stored}
use Rattle.af_cblk.specs.Sides.{client_made}
use Rattle.af_cblk.proofs.block.Block.store_cells.Given as goal

abbrev pub invariant-loop-done : goal.invariant-loop-done
invariant-loop-done g l =
    (client_made l.pass ≡ client_made l.initial.pass) × (l.pass.part ≡ next_stored l.initial.pass.part (map packed_word (take l.done l.frames))) × (l.steps ≡ l.initial.steps + l.done) × (l.done ≤ length l.frames)

abbrev pub decreases-loop-done : goal.decreases-loop-done
decreases-loop-done g l = length l.frames - l.done
