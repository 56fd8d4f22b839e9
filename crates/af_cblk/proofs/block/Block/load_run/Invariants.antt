use Rattle.std.proofs.Common.{◌≡◌, ◌+◌, ◌-◌, ◌≤◌, length, take, map}
use Rattle.af_cblk.proofs.Common.{packed_word}
use Rattle.af_cblk.specs.Parts.{saw_next}
use Rattle.af_cblk.specs.Sides.{ServerIs}
use Rattle.af_cblk.proofs.block.Block.load_run.Given as goal

abbrev pub invariant-loop-into : goal.invariant-loop-into
invariant-loop-into g l = ServerIs (saw_next l.initial.pass.part (map packed_word (take l.done l.into))) l.initial.pass l.pass × (l.steps ≡ l.initial.steps + l.done) × (l.done ≤ length l.into)

abbrev pub decreases-loop-into : goal.decreases-loop-into
decreases-loop-into g l = length l.into - l.done
