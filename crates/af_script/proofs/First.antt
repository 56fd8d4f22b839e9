-- The first fault of some places, and answers that are it.
use Rattle.std.proofs.Common.{◌≡◌, Bool, true, false, List, [], ◌∷◌, ◌++◌, Option, Some, None, Result, Ok, Err, refl, sym, ap, ◌∙◌, if◌then◌else◌}
use Rattle.af_script.specs.Ops.{or_else}
use Rattle.af_script.specs.Results.{◌>>=◌}
use Rattle.af_script.specs.Places.{Place, fault_at, unless}
use Rattle.af_script.specs.declared.fault.ScriptFault.{ScriptFault}

-- the fault of the first place that has one
abbrev pub first_of : List Place → Option ScriptFault
first_of [] = None
first_of (place ∷ rest) = or_else (fault_at place) (first_of rest)

-- a value, unless there is a fault
abbrev pub judged : {X : Type 0} → Option ScriptFault → X → Result X ScriptFault
judged None x = Ok x
judged (Some fault) x = Err fault

pub or_else-assoc : (a b c : Option ScriptFault) → or_else (or_else a b) c ≡ or_else a (or_else b c)
or_else-assoc None b c = refl
or_else-assoc (Some fault) b c = refl

pub first_of-append : (xs ys : List Place) → first_of (xs ++ ys) ≡ or_else (first_of xs) (first_of ys)
first_of-append [] ys = refl
first_of-append (place ∷ xs) ys =
    ap (or_else (fault_at place)) (first_of-append xs ys) ∙ sym (or_else-assoc (fault_at place) (first_of xs) (first_of ys))

bind_judged : {X Y : Type 0} (p q : Option ScriptFault) (x : X) (y : Y) (next : X → Result Y ScriptFault) → (p ≡ None → next x ≡ judged q y) → (judged p x >>= next) ≡ judged (or_else p q) y
bind_judged None q x y next h = h refl
bind_judged (Some fault) q x y next h = refl

-- one step and then another
pub bind : {X Y : Type 0} (r : Result X ScriptFault) (p q : Option ScriptFault) (x : X) (y : Y) (next : X → Result Y ScriptFault) → r ≡ judged p x → (p ≡ None → next x ≡ judged q y) → (r >>= next) ≡ judged (or_else p q) y
bind r p q x y next e h = ap (λ s. s >>= next) e ∙ bind_judged p q x y next h

judged-ok : {X Y : Type 0} (p : Option ScriptFault) (x : X) (f : X → Y) → (judged p x >>= (λ z. Ok (f z))) ≡ judged p (f x)
judged-ok None x f = refl
judged-ok (Some fault) x f = refl

-- a step and then a function of its value
pub bind_ok : {X Y : Type 0} (r : Result X ScriptFault) (p : Option ScriptFault) (x : X) (f : X → Y) → r ≡ judged p x → (r >>= (λ z. Ok (f z))) ≡ judged p (f x)
bind_ok r p x f e = ap (λ s. s >>= (λ z. Ok (f z))) e ∙ judged-ok p x f

-- a step behind a test
pub behind : {Y : Type 0} (test : Bool) (fault : ScriptFault) (r : Result Y ScriptFault) (q : Option ScriptFault) (y : Y) → r ≡ judged q y → (if test then r else Err fault) ≡ judged (or_else (unless test fault) q) y
behind true fault r q y e = e
behind false fault r q y e = refl

-- a value behind a test
pub tested : {Y : Type 0} (test : Bool) (fault : ScriptFault) (y : Y) → (if test then Ok y else Err fault) ≡ judged (unless test fault) y
tested true fault y = refl
tested false fault y = refl
