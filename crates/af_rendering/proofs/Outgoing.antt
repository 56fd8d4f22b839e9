-- What goes out to a file in pieces, and the cause of a fault on the way.
use Rattle.std.proofs.Common.{◌≡◌, ◌≤◌, ◌<◌, ℕ, ◌++◌, List, [], ◌∷◌, length, Some, Result, Ok, Err, OnOk, OnErr, IsErrAnd, IsErrOf, append-nil, refl, sym, ap, subst, arith}
use Rattle.af_rendering.proofs.Common.{AddsFront-append, AppendsTo, Files, HasCause, LeavesFront, LeavesFront-added, SetsFile, SetsFile-adds, StoreError}
use Rattle.af_io.specs.declared.store.StoreError.TheVariants as store
use Rattle.af_rendering.proofs.Basics.{no_fault, not_failed, other_error}

-- ## Pieces

-- a piece was added to what the file held, or after an error a front of the piece
pub sent_all : (result : Result (Unit {0}) StoreError) (base mid new : Files) (name out piece : List ℕ) → SetsFile base name (Some out) mid → AppendsTo result name piece mid new → OnOk result (SetsFile base name (Some (out ++ piece)) new)
sent_all (Ok x) base mid new name out piece set adds = SetsFile-adds base mid new name out piece set adds
sent_all (Err e) base mid new name out piece set adds = tt

pub sent_front : (result : Result (Unit {0}) StoreError) (base mid new : Files) (name out piece : List ℕ) → SetsFile base name (Some out) mid → AppendsTo result name piece mid new → OnErr result (LeavesFront base name (out ++ piece) new)
sent_front (Ok x) base mid new name out piece set adds = tt
sent_front (Err e) base mid new name out piece set adds =
    LeavesFront-added base mid new name out piece [] (out ++ piece) (ap (λ (xs : List ℕ). out ++ xs) (sym (append-nil piece))) set (AddsFront-append (Unit {0}) e name piece mid new adds)

-- an empty piece adds nothing to a file
pub nothing_sent : (base new : Files) (name out piece : List ℕ) → length piece ≡ 0 → SetsFile base name (Some out) new → SetsFile base name (Some (out ++ piece)) new
nothing_sent base new name out [] none set = subst (λ (xs : List ℕ). SetsFile base name (Some xs) new) (sym (append-nil out)) set
nothing_sent base new name out (x ∷ xs) none set = absurd (omega arith)

-- ## Causes

same_count : (a b : ℕ) → a ≤ b → (a < b → ⊥) → a ≡ b
same_count a b le never = omega (arith, le, never)

-- a call that answered Ok left the count of faults
pub stays_at : (before now : ℕ) (x : Unit {0}) → HasCause {T = Unit {0}} before now (Ok x) → before ≡ now
stays_at before now x cause = same_count before now cause.later (λ rose. no_fault x (cause.only rose))

-- after a call that answered Ok, the cause of the next call is that of both
pub then_cause : (before mid now : ℕ) (x : Unit {0}) (r : Result (Unit {0}) StoreError) → HasCause {T = Unit {0}} before mid (Ok x) → HasCause mid now r → HasCause before now r
then_cause before mid now x r first next = subst (λ (n : ℕ). HasCause n now r) (sym (stays_at before mid x first)) next

-- ## Causes in a render

no_failed : {T : Type 0} → IsErrOf {T = T} {E = StoreError} (Err store.Memory) store.Failed → ⊥
no_failed {T} h = let e : ⊥ = cc in e

-- memory ran out, and the store did nothing
pub calm_memory : {T : Type 0} (r : Result T StoreError) (n : ℕ) → IsErrAnd r (λ e. e ≡ store.Memory) → HasCause n n r
calm_memory (Ok x) n is = absurd is
calm_memory {T} (Err e) n is =
    subst (λ (x : StoreError). HasCause {T = T} n n (Err x)) (sym is)
    (record { later = omega arith; failed = (λ h. absurd (no_failed {T = T} h)); only = (λ lt. absurd (omega (arith, lt))) })

-- a render that went well has the cause of a call that went well
pub calm_ok : {T : Type 0} (played : T) (x : Unit {0}) (before now : ℕ) → HasCause {T = Unit {0}} before now (Ok x) → HasCause {T = T} before now (Ok played)
calm_ok {T} played x before now cause = record {
  later = cause.later;
  failed = (λ h. absurd (not_failed {T = T} played h));
  only = (λ lt. absurd (no_fault x (cause.only lt)));
}

failed_same : {T : Type 0} (e : StoreError) → IsErrOf {T = Unit {0}} {E = StoreError} (Err e) store.Failed → IsErrOf {T = T} {E = StoreError} (Err e) store.Failed
failed_same {T} store.Failed h = refl
failed_same store.Memory h = absurd (other_error h)

failed_back : {T : Type 0} (e : StoreError) → IsErrOf {T = T} {E = StoreError} (Err e) store.Failed → IsErrOf {T = Unit {0}} {E = StoreError} (Err e) store.Failed
failed_back store.Failed h = refl
failed_back {T} store.Memory h = absurd (no_failed {T = T} h)

-- if the store refused, the answer has the cause of the refusal
pub cause_same : {T : Type 0} (r : Result T StoreError) (e : StoreError) (before now : ℕ) → IsErrAnd r (λ x. x ≡ e) → HasCause {T = Unit {0}} before now (Err e) → HasCause before now r
cause_same (Ok x) e before now is cause = absurd is
cause_same {T} (Err f) e before now is cause =
    subst (λ (x : StoreError). HasCause {T = T} before now (Err x)) (sym is)
    (record { later = cause.later; failed = (λ h. cause.failed (failed_back {T = T} e h)); only = (λ lt. failed_same {T = T} e (cause.only lt)) })

-- a fact that holds anyway holds after an error
pub on_err : {T E P : Type 0} (r : Result T E) → P → OnErr r P
on_err (Ok x) p = tt
on_err (Err e) p = p

-- a fact that holds anyway holds after an answer
pub on_ok : {T E P : Type 0} (r : Result T E) → P → OnOk r P
on_ok (Ok x) p = p
on_ok (Err e) p = tt
