-- The cause of a fault in a play.
use Rattle.std.proofs.Common.{◌≡◌, ℕ, Result, Ok, Err, IsErrAnd, IsErrOf, refl, sym, subst, arith}
use Rattle.af_playing.proofs.Common.{HasCause, StoreError, no_fault, other_error}
use Rattle.af_io.specs.declared.store.StoreError.TheVariants as store
use Rattle.af_playing.proofs.Basics.{no_want}
use Rattle.af_playing.specs.declared.answering.PlayFault.{PlayFault}
use Rattle.af_playing.specs.declared.answering.PlayFault.TheVariants as fault
use Rattle.af_playing.specs.PlayedRuns.{HasStoreCause, fault_of}

not_err : {T : Type 0} (x : T) (f : PlayFault) → IsErrOf {T = T} {E = PlayFault} (Ok x) f → ⊥
not_err x f h = let e : ⊥ = cc in e

-- an allocation was refused, and the store did nothing
by_memory : {T : Type 0} (f : PlayFault) (n : ℕ) → f ≡ fault.Memory → HasStoreCause {T = T} n n (Err f)
by_memory {T} f n is =
    subst (λ (x : PlayFault). HasStoreCause {T = T} n n (Err x)) (sym is)
    (record { later = omega arith; failed = (λ h. absurd (no_want {T = T} h)); only = (λ lt. absurd (omega (arith, lt))) })

pub cause_memory : {T : Type 0} (r : Result T PlayFault) (n : ℕ) → IsErrAnd r (λ f. f ≡ fault.Memory) → HasStoreCause n n r
cause_memory (Ok x) n is = absurd is
cause_memory {T} (Err f) n is = by_memory {T = T} f n is

-- the store refused
by_store : {T : Type 0} (e : StoreError) (before now : ℕ) → HasCause {T = Unit {0}} before now (Err e) → HasStoreCause {T = T} before now (Err (fault_of e))
by_store {T} store.Failed before now cause = record { later = cause.later; failed = (λ h. cause.failed refl); only = (λ lt. refl) }
by_store {T} store.Memory before now cause = record {
  later = cause.later;
  failed = (λ h. absurd (no_want {T = T} h));
  only = (λ lt. absurd (other_error (cause.only lt)));
}

pub cause_store : {T : Type 0} (r : Result T PlayFault) (e : StoreError) (before now : ℕ) → IsErrAnd r (λ f. f ≡ fault_of e) → HasCause {T = Unit {0}} before now (Err e) → HasStoreCause before now r
cause_store (Ok x) e before now is cause = absurd is
cause_store {T} (Err f) e before now is cause = subst (λ (x : PlayFault). HasStoreCause {T = T} before now (Err x)) (sym is) (by_store {T = T} e before now cause)

-- the store did its work, and the play is Ok
pub cause_ok : {T : Type 0} (played : T) (x : Unit {0}) (before now : ℕ) → HasCause {T = Unit {0}} before now (Ok x) → HasStoreCause {T = T} before now (Ok played)
cause_ok {T} played x before now cause = record {
  later = cause.later;
  failed = (λ h. absurd (not_err {T = T} played fault.Store h));
  only = (λ lt. absurd (no_fault x (cause.only lt)));
}

-- the store did its work, and then an allocation was refused
pub cause_behind : {T : Type 0} (r : Result T PlayFault) (played : T) (before now : ℕ) → HasStoreCause {T = T} before now (Ok played) → IsErrAnd r (λ f. f ≡ fault.Memory) → HasStoreCause before now r
cause_behind (Ok x) played before now cause is = absurd is
cause_behind {T} (Err f) played before now cause is = subst (λ (x : PlayFault). HasStoreCause {T = T} before now (Err x)) (sym is) (record {
  later = cause.later;
  failed = (λ h. absurd (no_want {T = T} h));
  only = (λ lt. absurd (not_err {T = T} played fault.Store (cause.only lt)));
})
