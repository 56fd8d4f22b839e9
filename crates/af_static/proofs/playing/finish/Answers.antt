use Rattle.std.proofs.Common.{length, arith}
use Rattle.af_static.proofs.Rows.{done}
use Rattle.af_static.proofs.playing.finish.Goals as goal

pub returns : goal.returns
returns c first was = done c.args.at c.args.frames.now c.args.gains first c.args.head (length c.args.out.now) c.args.out.now c.silence_from.new.out c.requires.ended (omega arith) c.silence_from.ensures was
