-- What a report makes of a life, by what entries tell.
use Rattle.std.proofs.Common.{◌≡◌, ℕ, ◌+◌, ◌*◌, ◌<◌, ◌==◌, ◌||◌, not, nat_le, Bool, true, false, if◌then◌else◌, Some, None, refl, sym, subst, ◌∙◌, eqb-true, arith}
use Rattle.af_entry_law.proofs.Common.{Life, by_report, no, none-some, same_Some, state_code, stored_over, told_by_report}
use Rattle.af_life.specs.declared.state.LifeState.{LifeState}
use Rattle.af_life.specs.declared.state.LifeState.TheVariants.{Absent, Idle, Active, Pausing, Paused, Resuming, Stopping1, Stopping2, Stopped, Flushed}
use Rattle.af_life.specs.declared.track.Known.{Known}
use Rattle.af_life.specs.State.{life_code}
use Rattle.af_entry_law.specs.Told.{life_told}

-- ## The status word

code_small : (x : LifeState) → life_code x < 10
code_small Absent = omega arith
code_small Idle = omega arith
code_small Active = omega arith
code_small Pausing = omega arith
code_small Paused = omega arith
code_small Resuming = omega arith
code_small Stopping1 = omega arith
code_small Stopping2 = omega arith
code_small Stopped = omega arith
code_small Flushed = omega arith

pub state_code_small : (shut : Bool) (l : Life) → state_code shut l < 16
state_code_small true l = omega arith
state_code_small false l = let small = code_small l.state in omega (arith, small)

-- a status word gives the number of the state, whether the life is drained, and how many commands are settled
pub word_tells : (a b : ℕ) (d e : Bool) (n k : ℕ) → a < 16 → b < 16 → a + (if d then 16 else 0) + 256 * n ≡ b + (if e then 16 else 0) + 256 * k → (a ≡ b) × (n ≡ k)
word_tells a b true true n k small small' e = (omega (arith, small, small', e), omega (arith, small, small', e))
word_tells a b false false n k small small' e = (omega (arith, small, small', e), omega (arith, small, small', e))
word_tells a b true false n k small small' e = absurd (omega (arith, small, small', e))
word_tells a b false true n k small small' e = absurd (omega (arith, small, small', e))

-- what is stored over the same word gives the word
pub stored_tells : (last v w : ℕ) → stored_over last v ≡ stored_over last w → v ≡ w
stored_tells last v w = by_both (v == last) (w == last) refl refl
  where
    by_both : (p q : Bool) → (v == last) ≡ p → (w == last) ≡ q → (if p then None else Some v) ≡ (if q then None else Some w) → v ≡ w
    by_both true true e f same = eqb-true v last e ∙ sym (eqb-true w last f)
    by_both false false e f same = same_Some v w same
    by_both true false e f same = absurd (none-some w same)
    by_both false true e f same = absurd (none-some v (sym same))

-- ## The report

abbrev life_in : LifeState → Bool → Bool → Bool → ℕ → ℕ → Life
life_in state member ended drained retries stop_at = record { state = state; member = member; ended = ended; drained = drained; retries = retries; stop_at = stop_at }

abbrev with_shut : Bool → Known → Known
with_shut shut k = record k { shut = shut }

unshut : {A : Type 0} (x : LifeState) → 15 ≡ life_code x → A
unshut x e = absurd (let small = code_small x in omega (arith, small, e))

stopping : (member drained p q : Bool) (n m stop : ℕ) → let s : Bool → ℕ → Life = (λ b r. if b then life_in Stopping2 member false true r stop else life_in Stopping1 member false drained r stop) in
    life_code (s p n).state ≡ life_code (s q m).state → life_told (s p n) ≡ life_told (s q m)
stopping member drained true true n m stop e = refl
stopping member drained false false n m stop e = refl
stopping member drained true false n m stop e = absurd (omega (arith, e))
stopping member drained false true n m stop e = absurd (omega (arith, e))

-- two reports leave what tells the same of two lives; either may find the block shut, and a look at the commands may have
abbrev SameBy : Known → Known → Bool → Life → Life → Type 0
SameBy k h looks l m = (looks ≡ true → l.ended ≡ true) → state_code (k.shut || looks) (by_report k l) ≡ state_code (h.shut || looks) (by_report h m) → told_by_report k l ≡ told_by_report h m → life_told (by_report k l) ≡ life_told (by_report h m)

by_case : (k h : Known) (s t looks ended : Bool) (state : LifeState) (member drained : Bool) (n m stop : ℕ) → SameBy (with_shut s k) (with_shut t h) looks (life_in state member ended drained n stop) (life_in state member ended drained m stop)
unfolding by_report told_by_report
by_case k h true true looks ended state member drained n m stop over codes tells = refl
by_case k h true false true true state member drained n m stop over codes tells = refl
by_case k h true false true false state member drained n m stop over codes tells = no (over refl)
by_case k h true false false ended state member drained n m stop over codes tells = unshut (by_report (with_shut false h) (life_in state member ended drained m stop)).state codes
by_case k h false true true true state member drained n m stop over codes tells = refl
by_case k h false true true false state member drained n m stop over codes tells = no (over refl)
by_case k h false true false ended state member drained n m stop over codes tells = unshut (by_report (with_shut false k) (life_in state member ended drained n stop)).state (sym codes)
by_case k h false false looks true state member drained n m stop over codes tells = refl
by_case k h false false true false state member drained n m stop over codes tells = no (over refl)
by_case k h false false false false Stopping1 member drained n m stop over codes tells = stopping member drained (nat_le stop k.consumed) (nat_le stop h.consumed) n m stop codes
by_case k h false false false false Active true drained n m stop over codes tells = λ j. life_in Active (not (tells j)) false drained 50 stop
by_case k h false false false false Active false drained n m stop over codes tells = refl
by_case k h false false false false state member drained n m stop over codes tells = refl

pub reports_same : (k h : Known) (looks : Bool) (l m : Life) → life_told l ≡ life_told m → SameBy k h looks l m
reports_same k h looks l m same =
    let is : record l { retries = m.retries } ≡ m = (λ j. record (same j) { retries = m.retries }) in
    subst (SameBy k h looks l) is (by_case k h k.shut h.shut looks l.ended l.state l.member l.drained l.retries m.retries l.stop_at)
