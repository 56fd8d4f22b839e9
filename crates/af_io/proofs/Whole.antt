-- Writes in a loop.
use Rattle.std.proofs.Common.{◌≡◌, ℕ, List, [], ◌++◌, take, Option, Some, None, IsSome, unwrap_or, Result, Ok, Err, IsErrOf, refl, ap, ◌∙◌, append_assoc}
use Rattle.std.specs.Io.KnownBytes.{Appends as AppendsKnown}
use Rattle.af_io.specs.declared.store.StoreError.{StoreError}
use Rattle.af_io.specs.declared.store.StoreError.TheVariants.{Failed, Memory}
use Rattle.af_io.specs.Files.{Appends}
use Rattle.af_io.specs.Whole.{WritesFront}

pub Appends-more : (held mid now : Option (List ℕ)) (done piece : List ℕ) → AppendsKnown held mid done → AppendsKnown mid now piece → AppendsKnown held now (done ++ piece)
Appends-more None mid now done piece before more = tt
Appends-more (Some xs) None now done piece before more = absurd before
Appends-more (Some xs) (Some ys) None done piece before more = absurd more
Appends-more (Some xs) (Some ys) (Some zs) done piece before more = more ∙ ap (λ (front : List ℕ). front ++ piece) before ∙ append_assoc xs done piece

-- a writer that tells its bytes tells them afterwards
Appends-tells : (held now : Option (List ℕ)) (done : List ℕ) → AppendsKnown held now done → IsSome held → IsSome now
Appends-tells None now done more told = cc
Appends-tells (Some xs) None done more told = absurd more
Appends-tells (Some xs) (Some ys) done more told = told

pub WritesFront-tells : (held now : Option (List ℕ)) (piece : List ℕ) (r : Result (Unit {0}) StoreError) → WritesFront held piece r now → IsSome held → IsSome now
WritesFront-tells held now piece (Ok x) more told = Appends-tells held now piece more told
WritesFront-tells held now piece (Err e) more told = Appends-tells held now (take more.0 piece) more.1 told

Appends-held : (held now : Option (List ℕ)) (done : List ℕ) → AppendsKnown held now done → IsSome held → unwrap_or now [] ≡ unwrap_or held [] ++ done
Appends-held None now done more told = cc
Appends-held (Some xs) None done more told = absurd more
Appends-held (Some xs) (Some ys) done more told = more

-- what a sink over a writer promises
pub WritesFront-appends : (held now : Option (List ℕ)) (piece : List ℕ) (r : Result (Unit {0}) StoreError) → WritesFront held piece r now → (IsErrOf r Memory → ⊥) → IsSome held → Appends r (unwrap_or held []) piece (unwrap_or now [])
WritesFront-appends held now piece (Ok x) more system told = Appends-held held now piece more told
WritesFront-appends held now piece (Err Failed) more system told = (more.0, Appends-held held now (take more.0 piece) more.1 told)
WritesFront-appends held now piece (Err Memory) more system told = absurd (system refl)
