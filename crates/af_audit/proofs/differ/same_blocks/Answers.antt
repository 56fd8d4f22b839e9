use Rattle.std.proofs.Common.{◌≡◌, ◌∙◌, ◌+◌, ◌-◌, ◌++◌, ℕ, take, drop, ap, sym, arith}
use Rattle.af_audit.proofs.Common.{take-add}
use Rattle.af_audit.proofs.differ.same_blocks.Goals as goal

pub blocks-2-preserved : goal.blocks-2-preserved
blocks-2-preserved c =
    let a = c.args.a.now in
    let b = c.args.b.now in
    let at = c.blocks-2.at in
    let n : at + 64 - at ≡ 64 = omega arith in
    let here : take 64 (drop at a) ≡ take 64 (drop at b) = ap (λ (k : ℕ). take k (drop at a)) (sym n) ∙ (c.are_same.ensures c.if-are_same.true ∙ ap (λ (k : ℕ). take k (drop at b)) n) in
    record {
      inside = omega arith;
      same = take-add at 64 a ∙ ((λ i. c.blocks-2.invariant.same i ++ here i) ∙ sym (take-add at 64 b));
    }
