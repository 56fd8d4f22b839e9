use Rattle.std.proofs.Common.{Bool, ◌+◌, subst}
use Rattle.af_gain.specs.Narrow.{IsHeardAs}
use Rattle.af_gain.proofs.narrow.with_sixteen.Goals as goal

pub returns-then-mono : goal.returns-then-mono
returns-then-mono c = λ takes t at few low high are. record {
  low = c.with_eight.ensures takes t at few (subst (λ (mono : Bool). IsHeardAs t at c.args.low.now mono c.args.gains) c.if-mono.true low) are.low;
  high = c.with_eight-then-mono.ensures takes t (at + 8) few (subst (λ (mono : Bool). IsHeardAs t (at + 8) c.args.high.now mono c.args.gains) c.if-mono.true high) are.high;
}

pub returns-else-mono : goal.returns-else-mono
returns-else-mono c = λ takes t at few low high are. record {
  low = c.with_eight-else-mono.ensures takes t at few (subst (λ (mono : Bool). IsHeardAs t at c.args.low.now mono c.args.gains) c.if-mono.false low) are.low;
  high = c.with_eight-else-mono-2.ensures takes t (at + 8) few (subst (λ (mono : Bool). IsHeardAs t (at + 8) c.args.high.now mono c.args.gains) c.if-mono.false high) are.high;
}
