-- Two lists that are related place by place, joined end to end.
use Rattle.std.proofs.Common.{List, [], ◌∷◌, ◌++◌, ◌≡◌, subst}
use Rattle.af_side_by_side.proofs.Common.{AllZip}

-- lists that are related place by place stay so when they are joined end to end
AllZip-append : {X : Type 0} (R : X → X → Type 0) (a b c d : List X) → AllZip R a c → AllZip R b d → AllZip R (a ++ b) (c ++ d)
AllZip-append R [] b [] d h k = k
AllZip-append R [] b (y ∷ c) d h k = absurd h
AllZip-append R (x ∷ a) b [] d h k = absurd h
AllZip-append R (x ∷ a) b (y ∷ c) d h k = (h.0, AllZip-append R a b c d h.1 k)

-- lists stay related place by place when they are joined, and the first ones may make up a list that is known as a whole
pub all_zip_halves : {X : Type 0} (R : X → X → Type 0) (xs a b c d : List X) → a ++ b ≡ xs → AllZip R a c → AllZip R b d → AllZip R xs (c ++ d)
all_zip_halves R xs a b c d e h k = subst (λ w. AllZip R w (c ++ d)) e (AllZip-append R a b c d h k)
