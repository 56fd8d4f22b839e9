use Rattle.std.proofs.Common.{length}
use Rattle.af_static.proofs.Calling.{played_on}
use Rattle.af_static.proofs.ends.Player.mix_next.Goals as goal

pub returns-clause-played : goal.returns-clause-played
returns-clause-played g c calls played count =
    let hear = c.hear.ensures in
    let play = c.play-filled.ensures in
    played_on c.args.shared.now.frames calls played count c.args.self.now c.hear.new.self c.play-filled.new.self c.args.gains (length c.args.out.now) c.play-filled.new.out c.play-filled.result
    c.requires.together.1 hear.together.1 (λ valid. let l = hear.load valid in (l.0, l.1)) (λ shut. (hear.shut shut).0) hear.head play.out play.filled play.head
