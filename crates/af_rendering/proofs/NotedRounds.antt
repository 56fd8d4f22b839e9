-- A round that is noted: what its noting needs, and what is left if memory runs out.
use Rattle.std.proofs.Common.{◌≡◌, ℕ, ◌+◌, ◌<◌, ◌≤◌, ◌^◌, List, length, Some, Result, Ok, Err, IsErrAnd, sym, subst, ◌∙◌, inr, arith}
use Rattle.af_rendering.proofs.Common.{Files, Given, HasCause, IsReady, IsRound, IsTurn, LeavesFront, Links, RoundNoted, SessionState, SetsFile, StoreError, TurnSpec, round_told, take_all}
use Rattle.af_io.specs.declared.store.StoreError.TheVariants as store
use Rattle.af_rendering.proofs.Basics.{no_fault, other_error}
use Rattle.af_rendering.proofs.RoundForms.{round_notes}
use Rattle.af_rendering.proofs.RoundTold.{round_is_told}

module _ (links : Links) (g : Given) (n m : ℕ) (s t : SessionState) (ready : IsReady links g n s) (next : IsReady links g m t) where
  -- there are as many clients as before the round
  pub clients_stay : length t.clients ≡ length s.clients
  clients_stay = sym next.given.0 ∙ ready.given.0

  -- a turn of the clients before the round is a turn of those after it
  pub turn_stays : (turn : TurnSpec) → IsTurn (length s.clients) turn → IsTurn (length t.clients) turn
  turn_stays turn is = subst (λ (k : ℕ). IsTurn k turn) (sym clients_stay) is

  -- the log has at most 100,000 entries
  pub few_noted : (count : ℕ) → count ≡ length s.fast.log.entries → count + length t.fast.log.entries < 2 ^ 62
  few_noted count is =
      let before = ready.together.fast.0.room in
      let after = next.together.fast.0.room in
      omega (arith, is, before.entries.0, before.sized.2, after.entries.0, after.sized.2)

  module _ (turn : TurnSpec) (r : RoundNoted) (bytes : List ℕ) (round : IsRound g turn s r bytes t) where
    -- the log is no shorter
    pub log_longer : length s.fast.log.entries ≤ length t.fast.log.entries
    log_longer = (round_notes g turn s r bytes t round).goes.longer

    -- the round is the one that is noted
    pub round_noted : IsRound g turn s (round_told turn s t) bytes t
    round_noted = subst (λ (x : RoundNoted). IsRound g turn s x bytes t) (round_is_told g turn s r bytes t round clients_stay) round

-- ## Memory runs out

-- if all that is to go out is in a file, the file holds a front of it
pub left_whole : (base new : Files) (name whole : List ℕ) → SetsFile base name (Some whole) new → LeavesFront base name whole new
left_whole base new name whole set = inr (length whole, subst (λ (xs : List ℕ). SetsFile base name (Some xs) new) (sym (take_all (length whole) whole (omega arith))) set)

by_memory : (e : StoreError) (before now : ℕ) (x : Unit {0}) → e ≡ store.Memory → HasCause {T = Unit {0}} before now (Ok x) → HasCause {T = Unit {0}} before now (Err e)
by_memory e before now x is cause = subst (λ (y : StoreError). HasCause {T = Unit {0}} before now (Err y)) (sym is)
    (record { later = cause.later; failed = (λ h. absurd (other_error h)); only = (λ lt. absurd (no_fault x (cause.only lt))) })

-- the store did its work, and then memory ran out
pub then_memory : (r : Result (Unit {0}) StoreError) (before now : ℕ) (x : Unit {0}) → IsErrAnd r (λ e. e ≡ store.Memory) → HasCause {T = Unit {0}} before now (Ok x) → HasCause before now r
then_memory (Ok y) before now x is cause = absurd is
then_memory (Err e) before now x is cause = by_memory e before now x is cause

-- ## The causes of a loop of rounds

-- the store refused a round, before which it had refused nothing
pub cause_on : (before mid now : ℕ) (e : StoreError) (r : Result (Unit {0}) StoreError) → mid ≡ before → IsErrAnd r (λ f. f ≡ e) → HasCause {T = Unit {0}} mid now (Err e) → HasCause before now r
cause_on before mid now e (Ok x) same is cause = absurd is
cause_on before mid now e (Err f) same is cause = subst (λ (y : ℕ × StoreError). HasCause {T = Unit {0}} y.0 now (Err y.1)) (λ i. (same i, sym is i)) cause

-- the store refused none of the rounds
pub cause_never : (before now : ℕ) (x : Unit {0}) → now ≡ before → HasCause {T = Unit {0}} before now (Ok x)
cause_never before now x same = record { later = omega (arith, same); failed = (λ h. absurd (no_fault x h)); only = (λ lt. absurd (omega (arith, same, lt))) }
