use Rattle.std.proofs.Common.{◌≡◌, ◌+◌, ◌-◌, take, map}
use Rattle.af_cblk.proofs.Common.{packed_word}
use Rattle.af_cblk.specs.Parts.{cells_stored}
use Rattle.af_cblk.specs.Sides.{client_made}
use Rattle.af_cblk.proofs.block.Block.store_few.Given as goal

abbrev pub invariant-loop-i : goal.invariant-loop-i
invariant-loop-i g l =
    (client_made l.pass ≡ client_made l.initial.pass) × (l.pass.part ≡ cells_stored l.initial.pass.part (l.first - 7) (map packed_word (take l.i l.frames))) × (l.steps ≡ l.initial.steps + l.i)
