use Rattle.std.proofs.Common.{◌+◌, ◌-◌, drop, refl, ◌∙◌, arith}
use Rattle.af_gain.proofs.Common.{get_or-drop, get_or-take, silence, take_of}
use Rattle.af_gain.proofs.narrow.with_whole.Goals as goal

pub returns-then-at-part : goal.returns-then-at-part
returns-then-at-part c = λ takes few are.
    let at = c.args.at in
    c.with_sixteen.ensures takes (take_of c.args.part) at few
    (record {
      frames = (λ k lt. get_or-take (at + 8 - at) (drop at c.args.part.frames.now) k silence (omega arith) ∙ get_or-drop at c.args.part.frames.now k silence);
      same = refl;
      used = c.requires.gains;
    })
    (record {
      frames = (λ k lt. get_or-take (at + 16 - (at + 8)) (drop (at + 8) c.args.part.frames.now) k silence (omega arith) ∙ get_or-drop (at + 8) c.args.part.frames.now k silence);
      same = refl;
      used = c.requires.gains;
    })
    are

pub returns-else-at-part : goal.returns-else-at-part
returns-else-at-part c = λ takes few are. record { low = c.with_take.ensures takes few are.low; high = c.with_take-else-at-part.ensures takes few are.high }
