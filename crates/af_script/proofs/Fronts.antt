-- What stands at the front and at the end of texts and lists.
use Rattle.std.proofs.Common.{◌≡◌, ℕ, suc, ◌-◌, true, false, List, [], ◌∷◌, length, drop, Option, Some, None, Bor, refl, sym, ap, ◌∙◌, subst, arith}
use Rattle.af_script.proofs.Common.{IsCharBoundary, MatchOption, option_map, slice_get}
use Rattle.std.specs.Str.Pattern.{FindsTextPrefix, StripsPrefix}
use Rattle.std.proofs.lemmas.Str.Pattern.{starts_text}
use Rattle.af_script.specs.Text.{after_text}
use Rattle.af_script.specs.Ops.{is_remove, ends_with_remove}
use Rattle.af_script.specs.declared.op.Op.{Op}

-- what `strip_prefix` gives
pub after-stripped : (word text : List ℕ) (r : Option (Bor (List ℕ))) → MatchOption r (FindsTextPrefix word text None) (λ x. StripsPrefix (FindsTextPrefix word) text x.now) → option_map (λ (x : Bor (List ℕ)). x.now) r ≡ after_text word text
after-stripped word text None missing = rw (sym (starts_text false word text missing)) refl
after-stripped word text (Some x) (n, found, cut, len) =
    let boundary : IsCharBoundary text n = subst (λ (k : ℕ). IsCharBoundary text k) (sym found.0) found.2 in
    rw (sym (starts_text true word text (n, found, boundary))) (ap Some (cut ∙ ap (λ k. drop k text) found.0))

-- the last of some ops
pub ends_with_remove-last : (ops : List Op) (op : Op) → Some op ≡ slice_get ops (length ops - 1) → ends_with_remove ops ≡ is_remove op
ends_with_remove-last [] op e = cc
ends_with_remove-last (x ∷ []) op e =
    let same : op ≡ x = cc in
    ap is_remove (sym same)
ends_with_remove-last (x ∷ y ∷ rest) op e =
    let i : length (x ∷ y ∷ rest) - 1 ≡ suc (length (y ∷ rest) - 1) = omega arith in
    ends_with_remove-last (y ∷ rest) op (e ∙ ap (slice_get (x ∷ y ∷ rest)) i)
