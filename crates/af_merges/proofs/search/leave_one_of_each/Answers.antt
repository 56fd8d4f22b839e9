use Rattle.std.proofs.Common.{rules, List, subst, sym, Contains}
use Rattle.std.specs.Cmp.{decided}
use Rattle.std.proofs.lemmas.List.Filters.{dedup_is}
use Rattle.std.proofs.lemmas.List.Kept.{Contains-dedup, Contains-from_dedup}
use Rattle.std.proofs.lemmas.List.Sorted.{Contains-permutation, IsPermutation-sym}
use Rattle.af_merges.specs.declared.search.Stage.{Stage}
use Rattle.af_merges.proofs.search.leave_one_of_each.Goals as goal

pub returns : goal.returns
returns c =
    let sorted : List Stage = c.sort_unstable.new.self.items in
    let is = dedup_is _ sorted c.dedup.new.self.items c.dedup.ensures.filtered in
    record {
      keeps = λ x has. subst (λ (xs : List Stage). Contains xs x) (sym is) (Contains-dedup (decided _ (λ a b. (λ same. search rules, λ same. search rules))) (λ a b same. search rules) sorted x (Contains-permutation _ _ x c.sort_unstable.ensures.permutation has));
      only = λ x has. Contains-permutation _ _ x (IsPermutation-sym _ _ c.sort_unstable.ensures.permutation) (Contains-from_dedup _ sorted x (subst (λ (xs : List Stage). Contains xs x) is has));
    }
