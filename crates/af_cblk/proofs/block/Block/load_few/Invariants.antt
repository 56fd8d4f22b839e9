use Rattle.std.proofs.Common.{◌≡◌, ◌+◌, take, map}
use Rattle.af_cblk.proofs.Common.{packed_word}
use Rattle.af_cblk.specs.Parts.{saw_next}
use Rattle.af_cblk.specs.Sides.{ServerIs}
use Rattle.af_cblk.proofs.block.Block.load_few.Given as goal

abbrev pub invariant-loop-i : goal.invariant-loop-i
invariant-loop-i g l = ServerIs (saw_next l.initial.pass.part (map packed_word (take l.i l.into))) l.initial.pass l.pass × (l.steps ≡ l.initial.steps + l.i)
