use Rattle.std.proofs.Common.{length, arith}
use Rattle.af_static.proofs.Rows.{all_silent}
use Rattle.af_static.proofs.playing.silence.Goals as goal

pub returns : goal.returns
returns c gains = all_silent gains c.args.out.now c.silence_from.new.out (length c.args.out.now) (omega arith) c.silence_from.ensures
