use Rattle.std.proofs.Common.{◌≡◌, ◌∙◌, ◌+◌, ◌-◌, ◌*◌, ◌++◌, ◌∷◌, [], ℕ, map, take, drop, ap, rules, arith}
use Rattle.af_judge.proofs.Common.{packed_word}
use Rattle.af_judge.proofs.FrameWords.{added-more, added-row}
use Rattle.af_judge.proofs.frame_words.append.Goals as goal

pub loop-row-preserved : goal.loop-row-preserved
loop-row-preserved c =
    let added : c.extend_from_slice.new.self.items ≡ c.loop-row.words.items ++ c.sixteen_words.result = search rules in
    let row : c.sixteen_words.result ≡ map packed_word (take 16 (drop (16 * c.loop-row.row) c.args.frames.now)) = c.sixteen_words.ensures ∙ ap (λ (n : ℕ). map packed_word (take n (drop (16 * c.loop-row.row) c.args.frames.now))) (let e : 16 * c.loop-row.row + 16 - 16 * c.loop-row.row ≡ 16 = omega arith in e) in
    added ∙ added-row c.args.words.now.items c.loop-row.words.items c.sixteen_words.result c.args.frames.now c.loop-row.row row c.loop-row.invariant

pub loop-at-preserved : goal.loop-at-preserved
loop-at-preserved c =
    let added : c.push.new.self.items ≡ c.loop-at.words.items ++ c.pack.result ∷ [] = search rules in
    added ∙ added-more c.args.words.now.items c.loop-at.words.items c.args.frames.now c.loop-at.at c.pack.result _ (omega arith) c.pack.ensures c.loop-at.invariant
