use Rattle.std.proofs.Common.{◌≡◌, ◌∷◌, [], sym, ap, ◌∙◌}
use Rattle.af_judge.proofs.Common.{Shape, fold-append, kept, server_begins, server_keeps}
use Rattle.af_judge.specs.declared.server_judge.ServerJudge.{ServerJudge}
use Rattle.af_judge.specs.Servers.{server_at}
use Rattle.af_judge.proofs.slot_report.note.Goals as goal

pub returns : goal.returns
returns c = λ s is.
    let e = c.args.event in
    let shape : c.args.server.now.shape ≡ s.shape = ap (λ (j : ServerJudge). j.shape) is in
    c.note.ensures (kept s) (is ∙ ap (λ (k : Shape). server_at k (kept s)) (sym shape))
    ∙ (ap (λ (k : Shape). server_at k (server_keeps k (kept s) e)) shape
    ∙ ap (λ k. server_at s.shape k) (sym (fold-append (server_keeps s.shape) (server_begins s.shape) s.events (e ∷ []))))
