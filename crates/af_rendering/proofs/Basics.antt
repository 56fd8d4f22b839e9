-- Basic lemmas that several files here, and of the crates above, cite.
use Rattle.std.proofs.Common.{Err, IsErrOf, Ok}
use Rattle.af_rendering.proofs.Common.{StoreError}
use Rattle.af_io.specs.declared.store.StoreError.TheVariants as store

pub no_fault : (x : Unit {0}) → IsErrOf {T = Unit {0}} {E = StoreError} (Ok x) store.Failed → ⊥
no_fault x h = let e : ⊥ = cc in e

pub not_failed : {T : Type 0} (x : T) → IsErrOf {T = T} {E = StoreError} (Ok x) store.Failed → ⊥
not_failed {T} x h = let e : ⊥ = cc in e

pub other_error : IsErrOf {T = Unit {0}} {E = StoreError} (Err store.Memory) store.Failed → ⊥
other_error h = let e : ⊥ = cc in e
