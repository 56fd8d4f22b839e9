use Rattle.std.proofs.Common.{◌≡◌, ◌++◌, ◌∷◌, [], List, ℕ, ap, ◌∙◌, rules}
use Rattle.af_judge.specs.declared.words_judge.Taken.{Taken}
use Rattle.af_judge.specs.Blocks.{Words, runs_words}
use Rattle.af_judge.proofs.TakenRuns.{runs-stay}
use Rattle.af_judge.proofs.words_judge.WordsJudge.release.Goals as goal

pub returns : goal.returns
returns c =
    let i = c.self.inside in
    let more : c.push.new.self.items ≡ i.released.items ++ c.args.word ∷ [] = search rules in
    let stay = runs-stay i.released.items (c.args.word ∷ []) i.runs.items c.self.invariant.within in
    let taken = ap (λ (l : List ℕ). runs_words l i.runs.items ++ i.taken.items) more ∙ ap (λ (ts : List Taken). ts ++ i.taken.items) stay in
    let after : Words = record { released = i.released.items ++ c.args.word ∷ []; taken = runs_words i.released.items i.runs.items ++ i.taken.items } in
    (λ j. let v : Words = record { released = more j; taken = taken j } in v)
    ∙ ap (λ (v : Words). let u : Words = record { released = v.released ++ c.args.word ∷ []; taken = v.taken } in u) c.self.view_is
