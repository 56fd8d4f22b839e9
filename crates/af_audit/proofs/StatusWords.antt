-- How many commands a stored status counts as settled.
use Rattle.std.proofs.Common.{◌≡◌, ℕ, ◌+◌, ◌*◌, ◌/◌, ◌≤◌, Bool, true, false, if◌then◌else◌, List, [], ◌∷◌, ◌++◌, sym, ap, subst, ◌∙◌, arith}
use Rattle.af_audit.proofs.Common.{Absent, Active, Flushed, Idle, Life, LifeState, Paused, Pausing, Resuming, ServerEvent, Stopped, Stopping1, Stopping2, TrackKept, div-mul-add, settled_in, state_code, status_word}
use Rattle.af_base.specs.declared.event.ServerEvent.TheVariants as server
use Rattle.af_life.specs.State.{life_code}
use Rattle.std.specs.Prelude.{◌%◌}

-- ## A word

pub code_low : (state : LifeState) → life_code state ≤ 15
code_low Absent = omega arith
code_low Idle = omega arith
code_low Active = omega arith
code_low Pausing = omega arith
code_low Paused = omega arith
code_low Resuming = omega arith
code_low Stopping1 = omega arith
code_low Stopping2 = omega arith
code_low Stopped = omega arith
code_low Flushed = omega arith

state_low : (shut : Bool) (life : Life) → state_code shut life ≤ 15
state_low true life = omega arith
state_low false life = code_low life.state

mark_low : (drained : Bool) → (if drained then 16 else 0) ≤ 16
mark_low true = omega arith
mark_low false = omega arith

-- a track's status counts no more commands than it has settled
pub status_settles : (shut : Bool) (s : TrackKept) → settled_in (status_word shut s) ≤ s.settled
unfolding status_word
status_settles shut s = subst (λ (n : ℕ). n ≤ s.settled) (sym (by (state_code shut s.life) (if s.life.drained then 16 else 0) (s.settled % 16777216) (state_low shut s.life) (mark_low s.life.drained))) (omega arith)
  where
    by : (state mark n : ℕ) → state ≤ 15 → mark ≤ 16 → (state + mark + 256 * n) / 256 ≡ n
    by state mark n a b =
        let word : state + mark + 256 * n ≡ n * 256 + (state + mark) = omega arith in
        ap (λ (m : ℕ). m / 256) word ∙ div-mul-add n 256 (state + mark) (omega (arith, a, b))

-- ## A list

-- a status that is stored counts at most so many
abbrev pub StatusLow : ℕ → ServerEvent → Type 0
StatusLow most (server.SetStatus word) = settled_in word ≤ most
StatusLow most _ = Unit {0}

abbrev pub StatusesLow : ℕ → List ServerEvent → Type 0
StatusesLow most [] = Unit {0}
StatusesLow most (e ∷ es) = StatusLow most e × StatusesLow most es

pub statuses_join : (most : ℕ) (xs ys : List ServerEvent) → StatusesLow most xs → StatusesLow most ys → StatusesLow most (xs ++ ys)
statuses_join most [] ys h g = g
statuses_join most (x ∷ xs) ys h g = (h.0, statuses_join most xs ys h.1 g)

status_more : (few most : ℕ) (e : ServerEvent) → few ≤ most → StatusLow few e → StatusLow most e
status_more few most (server.SetStatus word) low h = omega (arith, low, h)
status_more few most _ low h = tt

pub statuses_more : (few most : ℕ) (es : List ServerEvent) → few ≤ most → StatusesLow few es → StatusesLow most es
statuses_more few most [] low h = tt
statuses_more few most (e ∷ es) low h = (status_more few most e low h.0, statuses_more few most es low h.1)

-- each status that is stored counts at most so many
pub status_among : (most : ℕ) (before : List ServerEvent) (word : ℕ) (later : List ServerEvent) → StatusesLow most (before ++ server.SetStatus word ∷ later) → settled_in word ≤ most
status_among most [] word later h = h.0
status_among most (e ∷ before) word later h = status_among most before word later h.1
