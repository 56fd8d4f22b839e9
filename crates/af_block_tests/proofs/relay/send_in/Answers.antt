use Rattle.std.proofs.Common.{arith, ◌≡◌, ℕ, ◌-◌, List, ◌++◌, length, length-drop, take, map, drop, ap, ◌∙◌}
use Rattle.af_base.specs.declared.frame.Frame.{Frame}
use Rattle.af_base.specs.Sample.{packed_word}
use Rattle.af_block_tests.proofs.Relayed.{take_on, whole}
use Rattle.af_block_tests.proofs.relay.send_in.Goals as goal

pub loop-preserved : goal.loop-preserved
loop-preserved g c =
    let i = c.loop.invariant in
    let s = c.stir_at.ensures in
    let e = c.send_some-next.ensures in
    let n : ℕ = c.loop.next in
    let m : ℕ = c.send_some-next.result in
    let frames : List Frame = c.args.frames.now in
    let rest : length (drop n frames) ≡ length frames - n = length-drop n frames in
    record {
      ready = e.ready;
      lawful = e.lawful (s.lawful i.lawful);
      within = (let a = e.count.0 in let b = i.within in omega arith);
      sent = e.sent ∙ ap (λ (l : List Frame). c.stir_at.new.client.pass.part.frames ++ map packed_word (take m l)) (whole (drop n frames) (length frames - n) rest) ∙ ap (λ (l : List ℕ). l ++ map packed_word (take m (drop n frames))) (s.same.0 ∙ i.sent) ∙ take_on frames n m i.within;
      released = (let a = e.count.1 in let b = s.same.1 in let d = i.released in omega arith);
    }
