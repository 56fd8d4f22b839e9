use Rattle.std.proofs.Common.{◌≡◌, ◌+◌, ◌-◌, List, ℕ, ◌++◌, length, take, drop, ap, sym, ◌∙◌, append_assoc, arith, length-drop, length-append}
use Rattle.std.proofs.lemmas.Grind.{flat_map-append}
use Rattle.std.proofs.lemmas.List.{take_all, take-append-drop, take-append-le}
use Rattle.af_base.specs.declared.frame.Frame.{Frame}
use Rattle.af_base.specs.Sample.{frame_bytes, pcm_bytes}
use Rattle.af_io.proofs.pcm.push_blocks.Goals as goal

pub loop-rest-preserved : goal.loop-rest-preserved
loop-rest-preserved c =
    let rest = c.loop-rest.rest.now in
    let len = c.min-len.result in
    let out = c.loop-rest.out.items in
    let old = c.args.out.now.items in
    let block = pcm_bytes (take len rest) in
    let pushed : c.push_bytes.new.out.items ≡ out ++ block = c.in_ok-push_bytes.ensures.ok in
    let tail : take (length rest - len) (drop len rest) ≡ drop len rest = take_all (length rest - len) (drop len rest) (omega (arith, length-drop len rest)) in
    let whole : block ++ pcm_bytes (drop len rest) ≡ pcm_bytes rest = sym (flat_map-append frame_bytes (take len rest) (drop len rest)) ∙ ap pcm_bytes (take-append-drop len rest) in
    let long : length c.push_bytes.new.out.items ≡ length out + length block = ap length pushed ∙ length-append out block in
    record {
      written = ap (λ (x : List ℕ). x ++ pcm_bytes (take (length rest - len) (drop len rest))) pushed
          ∙ ap (λ (r : List Frame). (out ++ block) ++ pcm_bytes r) tail
          ∙ append_assoc out block (pcm_bytes (drop len rest))
          ∙ ap (λ (x : List ℕ). out ++ x) whole
          ∙ c.loop-rest.invariant.written;
      longer = omega (arith, long);
      kept = ap (take (length old)) pushed ∙ take-append-le (length old) out block c.loop-rest.invariant.longer ∙ c.loop-rest.invariant.kept;
    }
