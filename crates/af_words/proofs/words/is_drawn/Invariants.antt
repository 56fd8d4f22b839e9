use Rattle.std.proofs.Common.{◌≡◌, false}
use Rattle.std.specs.List.{list_any, range_with_len}
use Rattle.std.specs.Str.{bytes_eq}
use Rattle.af_script.specs.Generated.{generated_name}
use Rattle.af_words.proofs.words.is_drawn.Given as goal

abbrev pub invariant-loop-track : goal.invariant-loop-track
invariant-loop-track l = list_any (λ i. bytes_eq l.name (generated_name i)) (range_with_len 0 l.track) ≡ false
