use Rattle.std.proofs.Common.{◌≡◌, ◌++◌, ◌∙◌, ℕ, List, [], Some, OnErr, OnOk, ap, subst}
use Rattle.std.proofs.lemmas.Result.{on_ok_weaker}
use Rattle.af_rendering.proofs.Common.{LeavesFront, Roomy, SetsFile}
use Rattle.af_rendering.proofs.Waiting.{none_wait}
use Rattle.af_rendering.proofs.rounds.send_waiting.Goals as goal

pub returns-clause-sent : goal.returns-clause-sent
returns-clause-sent g c = λ told base sound held.
    let new = g.S.Store.files c.send_out-sent.new.store in
    let r = c.send_out-sent.result in
    let whole : held.0 ++ c.as_slice.result.now ≡ sound = ap (λ (xs : List ℕ). held.0 ++ xs) c.as_slice.ensures ∙ held.1 in
    let none : c.clear.new.self.items ≡ [] = ap (λ (b : Roomy ℕ). b.items) c.clear.ensures in
    let sent = c.send_out-sent.ensures.sent told held.0 base held.2 in (
      on_ok_weaker r (none_wait base new c.args.name.now sound c.clear.new.self.items none) (subst (λ (xs : List ℕ). OnOk r (SetsFile base c.args.name.now (Some xs) new)) whole sent.0),
      subst (λ (xs : List ℕ). OnErr r (LeavesFront base c.args.name.now xs new)) whole sent.1,
    )
