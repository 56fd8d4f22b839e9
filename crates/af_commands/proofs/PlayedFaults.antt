-- How a play answers that the outside stopped it, in its session or after it.
use Rattle.std.proofs.Common.{◌≡◌, ◌∙◌, ℕ, ◌<◌, ◌≤◌, Ok, Err, Result, String, IsErrAnd, IsErrOf, arith, refl, sym, subst}
use Rattle.af_commands.proofs.Common.{Ending, EndsState, Global, HasCause, HasFault, HasStoreCause, IsNoUsage, StopsOutside, IsPlayRequest, JournalData, Memory, Outcome, Over, PlayFault, Played, Refused, Request, Stop, Store, StoreError, SuitsRequest, stop_of}
use Rattle.af_io.specs.declared.store.StoreError.TheVariants as outside
use Rattle.af_playing.specs.declared.answering.PlayFault.TheVariants as fault
use Rattle.af_rendering.proofs.Basics.{not_failed}
use Rattle.af_commands.specs.Told.{Tells, TellsCause, TellsRender}

-- what holds of the stop of the store's refusal holds of the answer
pub stopped : (P : Result (String Global) Stop → Type 0) (r : Result (String Global) Stop) (e : StoreError) → P (Err (stop_of e)) → IsErrAnd r (λ s. s ≡ stop_of e) → P r
stopped P (Ok line) e p is = absurd is
stopped P (Err s) e p is = subst (λ (x : Stop). P (Err x)) (sym is) p

pub stop_outside : (e : StoreError) → StopsOutside (stop_of e)
stop_outside outside.Failed = tt
stop_outside outside.Memory = tt

-- ## Counts

same_count : (before now : ℕ) → before ≤ now → (before < now → ⊥) → now ≡ before
same_count before now le not = let none : now ≤ before = not_lt now before not in omega (arith, le, none)
  where
    not_lt : (a b : ℕ) → (b < a → ⊥) → a ≤ b
    not_lt a b none = search (arith, none)

not_stopped : (p : Played) → IsErrOf {T = Played} {E = PlayFault} (Ok p) fault.Store → ⊥
not_stopped p h = let e : ⊥ = cc in e

not_cut : (journal : JournalData) (ends : EndsState) → IsErrOf {T = Played} {E = PlayFault} (Err (fault.CycleLimit journal ends)) fault.Store → ⊥
not_cut journal ends h = let e : ⊥ = cc in e

not_memory : IsErrOf {T = Played} {E = PlayFault} (Err fault.Memory) fault.Store → ⊥
not_memory h = let e : ⊥ = cc in e

no_failed : {T : Type 0} → IsErrOf {T = T} {E = StoreError} (Err outside.Memory) outside.Failed → ⊥
no_failed {T} h = let e : ⊥ = cc in e

no_store : IsErrOf {T = String Global} {E = Stop} (Err Memory) Store → ⊥
no_store h = let e : ⊥ = cc in e

line_no_store : (line : String Global) → IsErrOf {T = String Global} {E = Stop} (Ok line) Store → ⊥
line_no_store line h = let e : ⊥ = cc in e

-- no count rose if the store was not the cause
pub ok_still : (p : Played) (before now : ℕ) → HasStoreCause {T = Played} before now (Ok p) → now ≡ before
ok_still p before now cause = same_count before now cause.later (λ lt. not_stopped p (cause.only lt))

pub cut_still : (journal : JournalData) (ends : EndsState) (before now : ℕ) → HasStoreCause {T = Played} before now (Err (fault.CycleLimit journal ends)) → now ≡ before
cut_still journal ends before now cause = same_count before now cause.later (λ lt. not_cut journal ends (cause.only lt))

pub written_still : {T : Type 0} (x : T) (before now : ℕ) → HasCause {T = T} before now (Ok x) → now ≡ before
written_still {T} x before now cause = same_count before now cause.later (λ lt. not_failed {T = T} x (cause.only lt))

line_still : (line : String Global) (before now : ℕ) → HasFault before now (Ok line) → now ≡ before
line_still line before now cause = same_count before now cause.later (λ lt. line_no_store line (cause.only lt))

-- a line has no fault if no count rose
calm_line : (line : String Global) (before now : ℕ) → now ≡ before → HasFault before now (Ok line)
calm_line line before now same = record { later = omega (arith, same); fault = (λ h. absurd (line_no_store line h)); only = (λ lt. absurd (omega (arith, lt, same))) }

calm_memory : (before now : ℕ) → now ≡ before → HasFault {X = String Global} before now (Err Memory)
calm_memory before now same = record { later = omega (arith, same); fault = (λ h. absurd (no_store h)); only = (λ lt. absurd (omega (arith, lt, same))) }

-- an error of the store is answered as a fault
fault_told : {T : Type 0} (e : StoreError) (before now : ℕ) → HasCause {T = T} before now (Err e) → HasFault {X = String Global} before now (Err (stop_of e))
fault_told outside.Failed before now cause = record { later = cause.later; fault = (λ h. cause.failed refl); only = (λ lt. refl) }
fault_told {T} outside.Memory before now cause = record { later = cause.later; fault = (λ h. absurd (no_store h)); only = (λ lt. absurd (no_failed {T = T} (cause.only lt))) }

-- ## A render

module _ (before now : ℕ) where
  pub HasFault-rendered : (played : Result Outcome StoreError) (result : Result (String Global) Stop) → HasCause before now played → TellsRender played result → HasFault before now result
  HasFault-rendered (Ok p) (Ok line) cause told = calm_line line before now (written_still p before now cause)
  HasFault-rendered (Ok p) (Err stop) cause told = subst (λ (s : Stop). HasFault {X = String Global} before now (Err s)) (sym told) (calm_memory before now (written_still p before now cause))
  HasFault-rendered (Err e) result cause told = subst (λ (r : Result (String Global) Stop). HasFault before now r) (sym told) (fault_told {T = Outcome} e before now cause)

stop_usage : (e : StoreError) → IsNoUsage {X = String Global} (Err (stop_of e))
stop_usage outside.Failed = tt
stop_usage outside.Memory = tt

pub IsNoUsage-rendered : (played : Result Outcome StoreError) (result : Result (String Global) Stop) → TellsRender played result → IsNoUsage result
IsNoUsage-rendered (Ok p) (Ok line) told = tt
IsNoUsage-rendered (Ok p) (Err stop) told = subst (λ (s : Stop). IsNoUsage {X = String Global} (Err s)) (sym told) tt
IsNoUsage-rendered (Err e) result told = subst (λ (r : Result (String Global) Stop). IsNoUsage r) (sym told) (stop_usage e)

-- ## A play

module _ (cycles : ℕ) where
  pub HasFault-told : (before mid now : ℕ) (played : Result Played PlayFault) (result : Result (String Global) Stop) → HasStoreCause before mid played → TellsCause mid now played result → Tells cycles played result → HasFault before now result
  HasFault-told before mid now (Ok p) result cause behind told = subst (λ (n : ℕ). HasFault n now result) (ok_still p before mid cause) behind
  HasFault-told before mid now (Err (fault.CycleLimit journal ends)) result cause behind told = subst (λ (n : ℕ). HasFault n now result) (cut_still journal ends before mid cause) behind
  HasFault-told before mid now (Err fault.Store) result cause same told =
      let here : HasFault {X = String Global} before mid (Err Store) = record { later = cause.later; fault = (λ h. cause.failed refl); only = (λ lt. refl) } in
      subst (λ (r : Result (String Global) Stop). HasFault before now r) (sym told) (subst (λ (n : ℕ). HasFault {X = String Global} before n (Err Store)) (sym same) here)
  HasFault-told before mid now (Err fault.Memory) result cause same told =
      let still : mid ≡ before = same_count before mid cause.later (λ lt. not_memory (cause.only lt)) in
      subst (λ (r : Result (String Global) Stop). HasFault before now r) (sym told) (calm_memory before now (same ∙ still))

  pub SuitsRequest-told : (request : Request) (played : Result Played PlayFault) (result : Result (String Global) Stop) → IsPlayRequest request → Tells cycles played result → SuitsRequest result request
  SuitsRequest-told request (Ok p) (Ok line) is told = tt
  SuitsRequest-told request (Ok p) (Err (Refused refusal)) is none = absurd none
  SuitsRequest-told request (Ok p) (Err (Over over)) is none = absurd none
  SuitsRequest-told request (Ok p) (Err Store) is told = tt
  SuitsRequest-told request (Ok p) (Err Memory) is told = tt
  SuitsRequest-told request (Err (fault.CycleLimit journal ends)) (Ok line) is none = absurd none
  SuitsRequest-told request (Err (fault.CycleLimit journal ends)) (Err (Refused refusal)) is none = absurd none
  SuitsRequest-told request (Err (fault.CycleLimit journal ends)) (Err (Over over)) is told = subst (λ (o : Ending). SuitsRequest {X = String Global} (Err (Over o)) request) (sym told) is
  SuitsRequest-told request (Err (fault.CycleLimit journal ends)) (Err Store) is told = tt
  SuitsRequest-told request (Err (fault.CycleLimit journal ends)) (Err Memory) is told = tt
  SuitsRequest-told request (Err fault.Store) result is told = subst (λ (r : Result (String Global) Stop). SuitsRequest r request) (sym told) tt
  SuitsRequest-told request (Err fault.Memory) result is told = subst (λ (r : Result (String Global) Stop). SuitsRequest r request) (sym told) tt

-- ## A log after a play

-- a log is written only if all parties have ended
module _ (cycles : ℕ) (line : String Global) where
  pub Tells-unlogged : (played : Result Played PlayFault) (e : StoreError) → Tells cycles played (Ok line) → Tells cycles played (Err (stop_of e))
  Tells-unlogged (Ok p) e told = stop_outside e
  Tells-unlogged (Err (fault.CycleLimit journal ends)) e none = absurd none
  Tells-unlogged (Err fault.Store) e clash = let none : ⊥ = cc in absurd none
  Tells-unlogged (Err fault.Memory) e clash = let none : ⊥ = cc in absurd none

  module _ (before mid now : ℕ) where
    pub TellsCause-unlogged : (played : Result Played PlayFault) (e : StoreError) → Tells cycles played (Ok line) → TellsCause before mid played (Ok line) → HasCause {T = Unit {0}} mid now (Err e) → TellsCause before now played (Err (stop_of e))
    TellsCause-unlogged (Ok p) e told cause behind = subst (λ (n : ℕ). HasFault {X = String Global} n now (Err (stop_of e))) (line_still line before mid cause) (fault_told {T = Unit {0}} e mid now behind)
    TellsCause-unlogged (Err (fault.CycleLimit journal ends)) e none cause behind = absurd none
    TellsCause-unlogged (Err fault.Store) e clash cause behind = let none : ⊥ = cc in absurd none
    TellsCause-unlogged (Err fault.Memory) e clash cause behind = let none : ⊥ = cc in absurd none

    pub TellsCause-logged : (played : Result Played PlayFault) (wrote : Unit {0}) → Tells cycles played (Ok line) → TellsCause before mid played (Ok line) → HasCause {T = Unit {0}} mid now (Ok wrote) → TellsCause before now played (Ok line)
    TellsCause-logged (Ok p) wrote told cause behind = calm_line line before now (written_still wrote mid now behind ∙ line_still line before mid cause)
    TellsCause-logged (Err (fault.CycleLimit journal ends)) wrote none cause behind = absurd none
    TellsCause-logged (Err fault.Store) wrote clash cause behind = let none : ⊥ = cc in absurd none
    TellsCause-logged (Err fault.Memory) wrote clash cause behind = let none : ⊥ = cc in absurd none
