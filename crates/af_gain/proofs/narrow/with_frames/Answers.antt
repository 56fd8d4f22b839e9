use Rattle.std.proofs.Common.{Bool, subst}
use Rattle.af_gain.specs.Narrow.{IsHeardAs}
use Rattle.af_gain.proofs.narrow.with_frames.Goals as goal

pub returns-then-mono : goal.returns-then-mono
returns-then-mono c = λ takes t at few heard are.
    c.with_eight.ensures takes t at few (subst (λ (mono : Bool). IsHeardAs t at c.args.frames.now mono c.args.gains) c.if-mono.true heard) are

pub returns-else-mono : goal.returns-else-mono
returns-else-mono c = λ takes t at few heard are.
    c.with_eight-else-mono.ensures takes t at few (subst (λ (mono : Bool). IsHeardAs t at c.args.frames.now mono c.args.gains) c.if-mono.false heard) are
