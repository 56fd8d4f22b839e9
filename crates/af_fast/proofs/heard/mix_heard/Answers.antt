use Rattle.std.proofs.Common.{length, ◌∙◌}
use Rattle.af_fast.proofs.HeardMix.{mix_used}
use Rattle.af_fast.proofs.heard.mix_heard.Goals as goal

pub returns-then-used-le8 : goal.returns-then-used-le8
returns-then-used-le8 c = c.mix_few.ensures ∙ mix_used c.args.frames.now c.args.entry.now c.args.used (length c.args.out.now) c.requires.used c.requires.none

pub returns-else-used-le8 : goal.returns-else-used-le8
returns-else-used-le8 c = c.mix_many.ensures ∙ mix_used c.args.frames.now c.args.entry.now c.args.used (length c.args.out.now) c.requires.used c.requires.none
