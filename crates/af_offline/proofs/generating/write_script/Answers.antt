use Rattle.std.proofs.Common.{◌≡◌, ◌∙◌, ℕ, List, ◌++◌, OnErr, ap, subst}
use Rattle.af_offline.proofs.Common.{LeavesFront, printed_script}
use Rattle.af_offline.proofs.generating.write_script.Goals as goal

pub returns-clause-left : goal.returns-clause-left
returns-clause-left g c = λ told.
    let old = g.S.Store.files c.args.store.now in
    let new = g.S.Store.files c.write_file.new.store in
    let text : c.deref.result.now ≡ printed_script c.args.script.now =
    c.deref.ensures.value ∙ (c.in_ok-print.ensures.printed ∙ ap (λ (before : List ℕ). before ++ printed_script c.args.script.now) c.new-text.ensures.items) in
    subst (λ (bytes : List ℕ). OnErr c.write_file.result (LeavesFront old c.args.name.now bytes new)) text (c.write_file.ensures.left told)
