use Rattle.std.proofs.Common.{◌≡◌, ◌-◌, ◌%◌, List, ℕ, ◌++◌, length, take, drop, min, ap, ◌∙◌, append_assoc, arith, length-drop}
use Rattle.std.proofs.lemmas.List.{take_all}
use Rattle.af_base.specs.declared.frame.Frame.{Frame}
use Rattle.af_io.specs.Pcm.{frames_from, frame_width}
use Rattle.af_io.proofs.Blocks.{block_whole, rest_whole, block_read}
use Rattle.af_io.proofs.pcm.read_frames.Goals as goal

pub loop-rest-preserved : goal.loop-rest-preserved
loop-rest-preserved c =
    let mono = c.args.mono in
    let rest = c.loop-rest.rest.now in
    let len = c.min-len.result in
    let frames = c.loop-rest.frames.items in
    let is : len ≡ min (length rest) 256 = omega arith in
    let tail : take (length rest - len) (drop len rest) ≡ drop len rest = take_all (length rest - len) (drop len rest) (omega (arith, length-drop len rest)) in
    let pushed : c.push_block.new.frames.items ≡ frames ++ frames_from mono (take len rest) = c.in_ok-push_block.ensures in
    let block = block_whole mono (length rest) len c.loop-rest.invariant.whole is in
    record {
      whole = ap (λ (r : List ℕ). length r % frame_width mono) tail
          ∙ ap (λ (n : ℕ). n % frame_width mono) (length-drop len rest)
          ∙ rest_whole mono (length rest) len c.loop-rest.invariant.whole is;
      read = ap (λ (x : List Frame). x ++ frames_from mono (take (length rest - len) (drop len rest))) pushed
          ∙ ap (λ (r : List ℕ). (frames ++ frames_from mono (take len rest)) ++ frames_from mono r) tail
          ∙ append_assoc frames (frames_from mono (take len rest)) (frames_from mono (drop len rest))
          ∙ ap (λ (x : List Frame). frames ++ x) (block_read mono rest len (omega arith) block)
          ∙ c.loop-rest.invariant.read;
    }
