use Rattle.std.proofs.Common.{◌≡◌, ◌+◌, ℕ, List, ap, sym, subst, ◌∙◌, arith, inr}
use Rattle.af_gain.proofs.Common.{frame_at}
use Rattle.af_gain.specs.declared.sums.Sum.{Sum}
use Rattle.af_gain.specs.Sums.{IsGrownTo, added, sum_at}
use Rattle.af_gain.proofs.Steps.{grown_pair}
use Rattle.af_gain.proofs.adding.add_four.Goals as goal

pub returns : goal.returns
returns c = λ start was.
    let frames = c.args.frames.now in
    let at = c.args.at in
    let old = c.args.sums.now in
    let middle = c.store_two.new.sums in
    let grows : ℕ × ℕ → ℕ → Sum = λ g k. added c.args.mono g (frame_at frames k) (sum_at old k) in
    let gains : (c.left.result, c.right.result) ≡ c.args.gains = λ i. (c.left.ensures.value i, c.right.ensures.value i) in
    let others : (c.left-2.result, c.right-2.result) ≡ c.args.gains = λ i. (c.left-2.ensures.value i, c.right-2.ensures.value i) in
    let one : sum_at middle at ≡ grows c.args.gains at = c.store_two.ensures.first ∙ ap (λ (xs : List Sum). sum_at xs 0) c.grown_two-first.ensures.sums ∙ ap (λ (g : ℕ × ℕ). grows g at) gains in
    let two : sum_at middle (at + 1) ≡ grows c.args.gains (at + 1) = c.store_two.ensures.second ∙ ap (λ (xs : List Sum). sum_at xs 1) c.grown_two-first.ensures.sums ∙ ap (λ (g : ℕ × ℕ). grows g (at + 1)) gains in
    let half = grown_pair frames c.args.mono c.args.gains at start old middle was c.grown_two-first.ensures.heard.0 c.grown_two-first.ensures.heard.1 one two c.store_two.ensures.same in
    let third : sum_at middle (at + 2) ≡ sum_at old (at + 2) = c.store_two.ensures.same (at + 2) (inr (omega arith)) in
    let fourth : sum_at middle (at + 2 + 1) ≡ sum_at old (at + 2 + 1) = c.store_two.ensures.same (at + 2 + 1) (inr (omega arith)) in
    let three : sum_at c.store_two-2.new.sums (at + 2) ≡ added c.args.mono c.args.gains (frame_at frames (at + 2)) (sum_at middle (at + 2)) = c.store_two-2.ensures.first ∙ ap (λ (xs : List Sum). sum_at xs 0) c.grown_two-second.ensures.sums ∙ ap (λ (g : ℕ × ℕ). grows g (at + 2)) others ∙ ap (added c.args.mono c.args.gains (frame_at frames (at + 2))) (sym third) in
    let four : sum_at c.store_two-2.new.sums (at + 2 + 1) ≡ added c.args.mono c.args.gains (frame_at frames (at + 2 + 1)) (sum_at middle (at + 2 + 1)) = c.store_two-2.ensures.second ∙ ap (λ (xs : List Sum). sum_at xs 1) c.grown_two-second.ensures.sums ∙ ap (λ (g : ℕ × ℕ). grows g (at + 2 + 1)) others ∙ ap (added c.args.mono c.args.gains (frame_at frames (at + 2 + 1))) (sym fourth) in
    let whole = grown_pair frames c.args.mono c.args.gains (at + 2) start middle c.store_two-2.new.sums half c.grown_two-second.ensures.heard.0 c.grown_two-second.ensures.heard.1 three four c.store_two-2.ensures.same in
    let end : at + 2 + 2 ≡ at + 4 = omega arith in
    subst (λ (n : ℕ). IsGrownTo n frames c.args.mono c.args.gains start c.store_two-2.new.sums) end whole
