-- Which state a number counts as: one that was pushed, the one before any, or the normal mixer's draft.
use Rattle.std.proofs.Common.{◌≡◌, ℕ, zero, suc, ◌<◌, ◌≤◌, ◌==◌, nat_le, if◌then◌else◌, is_some, unwrap_or, Bool, true, false, true≢false, Option, Some, None, List, [], ◌∷◌, length, refl, sym, ap, ◌∙◌, subst, arith, ne_eqb}
use Rattle.af_runs.proofs.Common.{FastState, initial, le-leb, state_of}
use Rattle.af_runs.specs.Runs.{Run, state_for, with_poll}
use Rattle.af_runs.specs.Sessions.{Session, cycle_frames}
use Rattle.af_runs.specs.Told.{state_at}

-- a number from 1 up to that of the last state has a state
state_there : (xs : List FastState) (k : ℕ) → 1 ≤ k → k ≤ length xs → is_some (state_of xs k) ≡ true
state_there xs zero some low = absurd (let z : ⊥ = omega (arith, some) in z)
state_there [] (suc k) some low = absurd (let z : ⊥ = omega (arith, low) in z)
state_there (x ∷ xs) (suc zero) some low = refl
state_there (x ∷ xs) (suc (suc k)) some low = state_there xs (suc k) (omega arith) (omega (arith, low))

-- and none beyond has
pub state_beyond : (xs : List FastState) (k : ℕ) → length xs < k → state_of xs k ≡ None
state_beyond xs zero far = absurd (let z : ⊥ = omega (arith, far) in z)
state_beyond [] (suc k) far = refl
state_beyond (x ∷ xs) (suc zero) far = absurd (let z : ⊥ = omega (arith, far) in z)
state_beyond (x ∷ xs) (suc (suc k)) far = state_beyond xs (suc k) (omega (arith, far))

-- only a number from 1 on has a state
pub known_some : (xs : List FastState) (k : ℕ) (x : FastState) → state_of xs k ≡ Some x → 1 ≤ k
known_some xs zero x is = absurd (true≢false (ap is_some (sym is)))
known_some xs (suc k) x is = omega arith

any_default : (o : Option FastState) (x y : FastState) → is_some o ≡ true → unwrap_or o x ≡ unwrap_or o y
any_default (Some z) x y some = refl
any_default None x y some = absurd (true≢false (sym some))

same_second : (b : Bool) (x y z : FastState) → b ≡ false → (if b then x else z) ≡ (if b then y else z)
same_second true x y z off = absurd (true≢false off)
same_second false x y z off = refl

second_of : (o : Option FastState) (b : Bool) (x y : FastState) → o ≡ None → b ≡ false → unwrap_or o (if b then x else y) ≡ y
second_of o b x y none off = ap (λ (p : Option FastState). unwrap_or p (if b then x else y)) none ∙ ap (λ (c : Bool). if c then x else y) off

-- one that has a state counts as it
pub state_known : (s : Session) (run : Run) (k : ℕ) (x : FastState) → state_of run.states k ≡ Some x → state_for s run k ≡ x
state_known s run k x is = ap (λ (o : Option FastState). unwrap_or o (if k == 0 then state_at (cycle_frames s) run.states run.current else run.normal.draft)) is

-- one that was pushed counts as that state, in any run
pub state_pushed : (s : Session) (run : Run) (k : ℕ) → 1 ≤ k → k ≤ length run.states → state_for s run k ≡ state_at (cycle_frames s) run.states k
state_pushed s run k some low = any_default (state_of run.states k) _ (initial (cycle_frames s)) (state_there run.states k some low)

-- one that wasn't as the draft
pub state_waits : (s : Session) (run : Run) (k : ℕ) → length run.states < k → state_for s run k ≡ run.normal.draft
state_waits s run k far = second_of (state_of run.states k) (k == 0) (state_at (cycle_frames s) run.states run.current) run.normal.draft (state_beyond run.states k far) (ne_eqb k 0 (λ e. omega (arith, e, far)))

-- the number of the state adopted last as that state
pub state_adopted : (s : Session) (run : Run) → run.current ≤ length run.states → state_for s run run.current ≡ state_at (cycle_frames s) run.states run.current
state_adopted s run low = by run.current refl low
  where
    by : (k : ℕ) → run.current ≡ k → k ≤ length run.states → state_for s run k ≡ state_at (cycle_frames s) run.states k
    by zero is low = ap (state_at (cycle_frames s) run.states) is
    by (suc k) is low = state_pushed s run (suc k) (omega arith) low

-- once a mixer has polled a number that was pushed, or 0, it counts as the state of that number
pub polled_pushed : (s : Session) (run : Run) (k : ℕ) → k ≤ length run.states → state_for s (with_poll s k run) k ≡ state_at (cycle_frames s) run.states k
unfolding with_poll
polled_pushed s run zero low = ap (λ (b : Bool). state_at (cycle_frames s) run.states (if b then 0 else run.current)) (le-leb 0 (length run.states) low)
polled_pushed s run (suc k) low = any_default (state_of run.states (suc k)) _ (initial (cycle_frames s)) (state_there run.states (suc k) (omega arith) low)

-- a number of a state counts as that state
pub polled_known : (s : Session) (run : Run) (k : ℕ) (x : FastState) → state_of run.states k ≡ Some x → state_for s (with_poll s k run) k ≡ x
unfolding with_poll
polled_known s run k x is = state_known s (with_poll s k run) k x is

-- another number than 0 counts as before, whatever was polled
pub polled_other : (s : Session) (run : Run) (k j : ℕ) → 1 ≤ j → state_for s (with_poll s k run) j ≡ state_for s run j
unfolding with_poll
polled_other s run k j some = ap (λ (x : FastState). unwrap_or (state_of run.states j) x) (same_second (j == 0) _ _ run.normal.draft (ne_eqb j 0 (λ e. omega (arith, e, some))))

-- and one that wasn't pushed as the draft
pub polled_waits : (s : Session) (run : Run) (k : ℕ) → length run.states < k → state_for s (with_poll s k run) k ≡ run.normal.draft
unfolding with_poll
polled_waits s run k far = second_of (state_of run.states k) (k == 0) _ run.normal.draft (state_beyond run.states k far) (ne_eqb k 0 (λ e. omega (arith, e, far)))

-- what holds of all states and of the draft holds of the one that a number counts as
pub state_among : (s : Session) (R : FastState → Type 0) (run : Run) (k : ℕ) → ((n : ℕ) → R (state_at (cycle_frames s) run.states n)) → R run.normal.draft → R (state_for s run k)
state_among s R run k pushed draft = by_state (state_of run.states k) refl
  where
    by_zero : (b : Bool) → R (if b then state_at (cycle_frames s) run.states run.current else run.normal.draft)
    by_zero true = pushed run.current
    by_zero false = draft

    by_state : (o : Option FastState) → state_of run.states k ≡ o → R (unwrap_or o (if k == 0 then state_at (cycle_frames s) run.states run.current else run.normal.draft))
    by_state None is = by_zero (k == 0)
    by_state (Some x) is = subst (λ (o : Option FastState). R (unwrap_or o (initial (cycle_frames s)))) is (pushed k)
