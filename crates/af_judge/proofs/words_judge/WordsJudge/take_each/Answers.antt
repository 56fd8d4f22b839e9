use Rattle.std.proofs.Common.{◌∷◌, [], ◌++◌, List, ap, ◌∙◌}
use Rattle.af_judge.specs.declared.words_judge.Taken.{Taken}
use Rattle.af_judge.specs.Blocks.{Words}
use Rattle.af_judge.proofs.Placed.{frames_more}
use Rattle.af_judge.proofs.words_judge.WordsJudge.take_each.Goals as goal

pub loop-past-preserved : goal.loop-past-preserved
loop-past-preserved c =
    let now = c.args.self.now in
    let t : Taken = record { at = c.saturating_add.result; word = c.pack.result } in
    c.in_ok-take.ensures
    ∙ (ap (λ (w : Words). let v : Words = record { released = w.released; taken = w.taken ++ t ∷ [] } in v) c.loop-past.invariant
    ∙ ap (λ (ts : List Taken). let v : Words = record { released = now.released; taken = ts } in v)
    (frames_more c.args.at c.loop-past.past c.saturating_add.result c.pack.result now.taken c.args.frames.now _ c.loop-past-test.true c.saturating_add.ensures c.pack.ensures))
