-- A part of a list that is written anew.
use Rattle.std.proofs.Common.{◌≡◌, ℕ, ◌≤◌, List, ◌++◌, length, take, drop, sym, ap, ◌∙◌}
use Rattle.std.proofs.lemmas.List.{drop-append-le, take-append-drop}
use Rattle.af_base.specs.declared.frame.Frame.{Frame}

-- what stays behind a place in the part stays behind it in the whole
pub part_kept : (n m : ℕ) (new old : List Frame) → n ≤ length new → n ≤ length (take m old) → drop n new ≡ drop n (take m old) → drop n (new ++ drop m old) ≡ drop n old
part_kept n m new old few within same =
    drop-append-le n new (drop m old) few ∙ ap (λ (l : List Frame). l ++ drop m old) same ∙ sym (drop-append-le n (take m old) (drop m old) within)
    ∙ ap (λ (l : List Frame). drop n l) (take-append-drop m old)
