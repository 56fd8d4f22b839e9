use Rattle.std.specs.Prelude.{◌↔◌}
use Rattle.std.proofs.Common.{sym, subst}
use Rattle.af_audit.proofs.Common.{Bool, IsTrue}
use Rattle.af_audit.specs.Verdicts.{MayEnd}
use Rattle.af_audit.proofs.RunMayEnd.{cut_ends, whole_ends}
use Rattle.af_audit.proofs.run_judge.RunJudge.may_end.Goals as goal

pub returns-then-not-cut : goal.returns-then-not-cut
returns-then-not-cut c = λ s marks run keeps.
    subst (λ (cut : Bool). IsTrue c.is_none-over.result ↔ MayEnd cut s run) (sym c.if-not-cut.true)
    (whole_ends s marks c.args.self.now c.args.tracks.now run keeps c.going_party.result c.is_none-over.result c.going_party.ensures.least c.is_none-over.ensures)

pub returns : goal.returns
returns c = λ s marks run keeps.
    subst (λ (cut : Bool). IsTrue c.both.result ↔ MayEnd cut s run) (sym c.if-not-cut.false)
    (cut_ends s marks c.args.self.now c.args.tracks.now run keeps c.going_party.result c.is_none-over.result c.going_party.ensures.least c.is_none-over.ensures c.entries.result c.both.result c.entries.ensures c.both.ensures)
