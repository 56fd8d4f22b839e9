use Rattle.af_script.proofs.Common.{items_view}
use Rattle.af_script.specs.Tree.{count_of}
use Rattle.af_script.specs.Reading.{op_in}
use Rattle.af_script.proofs.Each.{ReadSoFar}
use Rattle.af_script.proofs.track.each_op.Given as goal

abbrev pub invariant-loop-index : goal.invariant-loop-index
invariant-loop-index l = ReadSoFar (op_in l.track l.frames (count_of (items_view l.values))) l.values l.ops.items l.index
