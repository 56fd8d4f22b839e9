use Rattle.std.proofs.Common.{◌∙◌}
use Rattle.af_words.proofs.Commands.{command_more}
use Rattle.af_words.proofs.words.command_of.Goals as goal

pub loop-id-preserved : goal.loop-id-preserved
loop-id-preserved c = record {
  shape = c.in_ok-command.ensures.shape ∙ command_more c.args.name.now c.args.ids.now c.loop-id.id-index _ _ c.loop-id-test.true c.loop-id.invariant.shape;
  local = c.in_ok-command.ensures.local;
}
