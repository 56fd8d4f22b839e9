-- Steps and lists that are read one by one, up to the first refusal.
use Rattle.std.proofs.Common.{◌≡◌, List, [], ◌∷◌, ◌++◌, Result, Ok, Err, IsErrAnd, refl, ap, sym, subst, append_assoc}
use Rattle.af_offline.specs.declared.status.Refusal.{Refusal}
use Rattle.af_offline.specs.declared.status.Stop.{Stop}
use Rattle.af_offline.specs.declared.status.Stop.TheVariants.{Refused, Over, Store, Memory}
use Rattle.af_offline.specs.Asked.{◌>>=◌}
use Rattle.af_offline.specs.Status.{Meets}

-- one more value before those of the steps that follow
abbrev pub then_cons : {X : Type 0} → X → Result (List X) Refusal → Result (List X) Refusal
then_cons x rest = rest >>= (λ xs. Ok (x ∷ xs))

-- what was read so far before what follows
abbrev pub behind : {X : Type 0} → List X → Result (List X) Refusal → Result (List X) Refusal
behind xs rest = rest >>= (λ ys. Ok (xs ++ ys))

-- one more value is read
pub behind-more : {X : Type 0} (xs : List X) (x : X) (rest : Result (List X) Refusal) → behind xs (then_cons x rest) ≡ behind (xs ++ x ∷ []) rest
behind-more xs x (Ok ys) = ap Ok (sym (append_assoc xs (x ∷ []) ys))
behind-more xs x (Err refusal) = refl

-- a step that stopped, and what would have followed, stop alike
pub Meets-stopped : {X Y Z W : Type 0} (view : X → Y) (other : W → Z) (e : Stop) (told : Result Y Refusal) (next : Y → Result Z Refusal) → Meets view (Err e) told → Meets other (Err e) (told >>= next)
Meets-stopped {X} {Y} view other (Refused refusal) told next is = ap (λ (r : Result Y Refusal). r >>= next) is
Meets-stopped view other (Over over) told next is = absurd is
Meets-stopped view other Store told next is = tt
Meets-stopped view other Memory told next is = tt

-- a step in which memory ran out may answer so
pub Meets-memory : {X Y : Type 0} (view : X → Y) (r : Result X Stop) (told : Result Y Refusal) → IsErrAnd r (λ s. s ≡ Memory) → Meets view r told
Meets-memory view (Ok x) told is = absurd is
Meets-memory view (Err stop) told is = subst (λ (s : Stop). Meets view (Err s) told) (sym is) tt

-- what is so of a stop is so of the answer that passes it on
pub passed_on : {X : Type 0} (P : Result X Stop → Type 0) (r : Result X Stop) (e : Stop) → P (Err e) → IsErrAnd r (λ s. s ≡ e) → P r
passed_on P (Ok x) e p is = absurd is
passed_on {X} P (Err stop) e p is = subst (λ (s : Stop). P (Err s)) (sym is) p
