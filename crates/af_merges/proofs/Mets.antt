-- Lists of Mets: what is kept in two parts is kept in the whole.
use Rattle.std.proofs.Common.{◌≡◌, ℕ, ◌+◌, List, [], ◌∷◌, ◌++◌, length, true, subst, arith}
use Rattle.af_merges.proofs.Common.{HandEvent, and_parts, both_true}
use Rattle.af_merges.specs.Stages.{keeps_event, keeps_mets}

pub keeps-append : (a b : List HandEvent) (place clients hands : ℕ)
    → keeps_mets a place clients hands ≡ true → keeps_mets b (place + length a) clients hands ≡ true → keeps_mets (a ++ b) place clients hands ≡ true
keeps-append [] b place clients hands p q = subst (λ n. keeps_mets b n clients hands ≡ true) (omega arith) q
keeps-append (h ∷ a) b place clients hands p q =
    let both = and_parts (keeps_event h place clients hands) (keeps_mets a (place + 1) clients hands) p in
    let rest = keeps-append a b (place + 1) clients hands both.1 (subst (λ n. keeps_mets b n clients hands ≡ true) (omega arith) q) in
    both_true (keeps_event h place clients hands) _ both.0 rest
