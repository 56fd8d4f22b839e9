use Rattle.std.proofs.Common.{◌↔◌, IsTrue, subst, sym}
use Rattle.af_merges.proofs.Common.{TrackPoint}
use Rattle.af_merges.specs.Stages.{Lists, HasWalk}
use Rattle.af_merges.specs.MergeSearch.{lists_in}
use Rattle.af_merges.proofs.TurnsAndOrders.{HasLegalOrder-walk}
use Rattle.af_merges.proofs.merging.Merge.extend.Goals as goal

pub returns-in-Ok-clause-answer : goal.returns-in-Ok-clause-answer
returns-in-Ok-clause-answer c =
    let l : Lists = lists_in c.extend.new.search in
    let two = HasLegalOrder-walk l c.extend.new.search.from in
    let found : IsTrue c.in-Ok.yes ↔ HasWalk l c.extend.new.search.from =
    subst (λ (p : TrackPoint). IsTrue c.in-Ok.yes ↔ HasWalk l p) (sym c.in-Ok.ensures.from)
    (subst (λ (l : Lists). IsTrue c.in-Ok.yes ↔ HasWalk l c.self.inside.search.from) (sym c.in-Ok.ensures.lists) c.in-Ok.ensures.answer) in
    ((λ yes. two.0 (found.0 yes)), (λ some. found.1 (two.1 some)))
