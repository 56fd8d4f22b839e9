-- The life of a track whose client opens, starts, stops and removes it.
use Rattle.std.proofs.Common.{◌≡◌, ℕ, nat_le, Bool, true, false, refl, sym, ◌∙◌, true≢false, if◌then◌else◌}
use Rattle.af_enough_law.proofs.Common.{Active, Known, Life, Stopped, Stopping1, Stopping2, by_command, by_report}

-- ## The lives

abbrev pub active : ℕ → ℕ → Life
active retries stop_at = record { state = Active; member = true; ended = false; drained = false; retries = retries; stop_at = stop_at }

abbrev pub stopping : ℕ → ℕ → Life
stopping retries stop_at = record { state = Stopping1; member = true; ended = false; drained = false; retries = retries; stop_at = stop_at }

abbrev pub drained_life : ℕ → ℕ → Life
drained_life retries stop_at = record { state = Stopping2; member = true; ended = false; drained = true; retries = retries; stop_at = stop_at }

abbrev pub stopped : ℕ → ℕ → Life
stopped retries stop_at = record { state = Stopped; member = false; ended = false; drained = true; retries = retries; stop_at = stop_at }

-- ## Commands

pub stopped_by : (argument retries stop_at : ℕ) → by_command 4 argument (active retries stop_at) ≡ stopping retries argument
unfolding by_command
stopped_by argument retries stop_at = refl

pub removed_by : (argument retries stop_at : ℕ) → by_command 6 argument (stopped retries stop_at) ≡ record (stopped retries stop_at) { ended = true }
unfolding by_command
removed_by argument retries stop_at = refl

-- ## Reports

chosen : {A : Type 0} (b : Bool) (x y : A) → b ≡ false → (if b then x else y) ≡ y
chosen true x y h = absurd (true≢false h)
chosen false x y h = refl

chosen_yes : {A : Type 0} (b : Bool) (x y : A) → b ≡ true → (if b then x else y) ≡ x
chosen_yes true x y h = refl
chosen_yes false x y h = absurd (true≢false (sym h))

-- a stopping life is drained once all is consumed
pub stopping_done : (known : Known) (retries stop_at : ℕ) → known.shut ≡ false → nat_le stop_at known.consumed ≡ true → by_report known (stopping retries stop_at) ≡ drained_life retries stop_at
unfolding by_report
stopping_done known retries stop_at open_still done = chosen known.shut _ _ open_still ∙ chosen_yes (nat_le stop_at known.consumed) _ _ done

-- a stopping life stays so while not all is consumed
pub stopping_stays : (known : Known) (retries stop_at : ℕ) → known.shut ≡ false → nat_le stop_at known.consumed ≡ false → by_report known (stopping retries stop_at) ≡ stopping retries stop_at
unfolding by_report
stopping_stays known retries stop_at open_still more = chosen known.shut _ _ open_still ∙ chosen (nat_le stop_at known.consumed) _ _ more

-- a stopped life stays so
pub stopped_stays : (known : Known) (retries stop_at : ℕ) → known.shut ≡ false → by_report known (stopped retries stop_at) ≡ stopped retries stop_at
unfolding by_report
stopped_stays known retries stop_at open_still = chosen known.shut _ _ open_still
