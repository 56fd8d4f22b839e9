use Rattle.std.proofs.Common.{◌≡◌, ◌∙◌, ℕ, List, false, ap, sym}
use Rattle.std.specs.Str.{bytes_eq}
use Rattle.af_script.specs.Generated.{generated_name}
use Rattle.af_words.proofs.DrawnNames.{none_more}
use Rattle.af_words.proofs.words.is_drawn.Goals as goal

pub loop-track-preserved : goal.loop-track-preserved
loop-track-preserved c =
    let name = c.args.name.now in
    let track = c.loop-track.track in
    let apart : bytes_eq name (generated_name track) ≡ false = ap (λ (other : List ℕ). bytes_eq name other) (sym c.generated_name.ensures.text) ∙ (sym c.eq.ensures ∙ c.if-eq.false) in
    none_more (λ i. bytes_eq name (generated_name i)) track c.loop-track.invariant apart
