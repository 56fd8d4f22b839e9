use Rattle.std.proofs.Common.{◌≡◌, ℕ, ◌+◌, List, sym, ap, ◌∙◌, subst, arith}
use Rattle.af_model.specs.declared.newest.WriterEvent.{WriterEvent}
use Rattle.af_latest.specs.Laws.{stores}
use Rattle.af_static.specs.declared.setting.Setting.{Setting}
use Rattle.af_static.specs.Ends.{Sets}
use Rattle.af_static.specs.Numbers.{AreNumbered}
use Rattle.af_static.proofs.Numbering.{numbered_on, stores_on}
use Rattle.af_static.proofs.ends.Setter.set.Goals as goal

abbrev made : ℕ → ℕ → ℕ → ℕ → Setting
made number start end count = record { number = number; start = start; end = end; count = count }

pub invariant_of-self : goal.invariant_of-self
invariant_of-self g c =
    let k = c.self.invariant in
    let s = made (c.self.inside.made + 1) c.args.start c.args.end c.args.count in
    let is = k.count in
    record {
      first = c.store.ensures.together.1 ∙ k.first;
      numbered = subst (λ (ws : List (WriterEvent Setting)). AreNumbered 0 ws) (sym c.store.ensures.list) (numbered_on 0 s c.self.inside.writer.events k.numbered (omega arith));
      count = ap stores c.store.ensures.list ∙ stores_on s c.self.inside.writer.events ∙ ap (λ n. n + 1) k.count;
    }

pub returns-clause-number : goal.returns-clause-number
returns-clause-number g c =
    let count = c.self.invariant.count in
    let same : stores c.self.inside.writer.events ≡ stores c.args.self.now.events = ap (λ (v : Sets). stores v.events) c.self.view_is in
    (omega arith, (invariant_of-self g c).count)
