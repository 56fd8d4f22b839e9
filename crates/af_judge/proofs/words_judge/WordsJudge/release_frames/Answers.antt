use Rattle.std.proofs.Common.{◌++◌, List, ℕ, map, ap, ◌∙◌}
use Rattle.af_judge.proofs.Common.{packed_word}
use Rattle.af_judge.specs.declared.words_judge.Taken.{Taken}
use Rattle.af_judge.specs.Blocks.{Words, runs_words}
use Rattle.af_judge.proofs.TakenRuns.{runs-stay}
use Rattle.af_judge.proofs.words_judge.WordsJudge.release_frames.Goals as goal

pub returns : goal.returns
returns c =
    let i = c.self.inside in
    let words = map packed_word c.args.frames.now in
    let more = c.in_ok-append.ensures.words in
    let stay = runs-stay i.released.items words i.runs.items c.self.invariant.within in
    let taken = ap (λ (l : List ℕ). runs_words l i.runs.items ++ i.taken.items) more ∙ ap (λ (ts : List Taken). ts ++ i.taken.items) stay in
    (λ j. let v : Words = record { released = more j; taken = taken j } in v)
    ∙ ap (λ (v : Words). let u : Words = record { released = v.released ++ words; taken = v.taken } in u) c.self.view_is
