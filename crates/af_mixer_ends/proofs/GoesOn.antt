-- A cycle for which the log has room answers no Spent.
use Rattle.std.proofs.Common.{◌≡◌, inl, inr, ℕ, ◌≤◌, ◌==◌, eqb-true, Bool, true, false, true≢false, if◌then◌else◌, Option, Some, None, Ok, List, length, refl, sym, ap, ◌∙◌, subst, arith}
use Rattle.af_base.proofs.Basics.{neither_is, never_true}
use Rattle.af_base.specs.declared.frame.Frame.{Frame}
use Rattle.af_base.specs.declared.log.Cycle.{Cycle}
use Rattle.af_base.specs.declared.log.Cycle.TheVariants as cycle
use Rattle.af_base.specs.declared.state.Command.{Command}
use Rattle.af_base.specs.declared.state.Command.TheVariants.{ColdIdle, Exit, MixWrite}
use Rattle.af_base.specs.declared.state.FastState.{FastState}
use Rattle.af_model.specs.Cycles.{cold_done, cycle_by, cycle_of, state_of}
use Rattle.af_fast.specs.Mixer.{MixerState, IsSound, adopted_states, all_entries, is_over}
use Rattle.af_fast.specs.Mixing.{MixesOnceAfter}
use Rattle.af_mixer_ends.specs.Mixers.{Cycles, IsFull, IsSpent, MakesRoom}

is_spent : Cycle → Bool
is_spent (cycle.Spent n) = true
is_spent _ = false

not_spent_if : (b : Bool) → is_spent (if b then cycle.Idle else cycle.Cold) ≡ false
unfolding is_spent
not_spent_if true = refl
not_spent_if false = refl

not_spent_by : (done cold : ℕ) (c : Command) → is_spent (cycle_by done cold c) ≡ false
unfolding is_spent
not_spent_by done cold Exit = refl
not_spent_by done cold ColdIdle = not_spent_if (cold == done)
not_spent_by done cold MixWrite = refl
not_spent_by done cold _ = refl

-- what an entry tells is no Spent
not_spent : (done : ℕ) (x : Option FastState) → is_spent (cycle_of done x) ≡ false
unfolding is_spent
not_spent done None = refl
not_spent done (Some x) = not_spent_by done x.cold_gen x.command

spent : (n : ℕ) → is_spent (cycle.Spent n) ≡ true
unfolding is_spent
spent n = refl

exit : is_spent cycle.Exit ≡ false
unfolding is_spent
exit = refl

-- Where room was made the log isn't full
pub has_room : (m x : MixerState) → 1 ≤ m.cycles → MakesRoom m true x → IsFull x → ⊥
has_room m x some (inl r) full = r.0 (subst IsFull r.1 full)
has_room m x some (inr r) full = let none = subst IsFull r.1 full in let e : 0 ≡ m.cycles = none.1 in absurd (omega arith)

module _ (m m' : MixerState) (out out' : List Frame) (answer : Cycle) (n : ℕ) (room : IsFull m → ⊥) (sound : IsSound m) (c : Cycles m out answer m' out') (is : answer ≡ cycle.Spent n) where
  abbrev mid : MixerState
  mid = c.0

  once : MixesOnceAfter sound.earlier mid out answer m' out'
  once = c.2 sound.earlier sound.order

  unlike : is_spent answer ≡ false → ⊥
  unlike other = true≢false (sym (spent n) ∙ sym (ap is_spent is) ∙ other)

  not_full : m.exited ≡ false → length mid.log.entries ≡ mid.cycles → ⊥
  not_full runs e = room (runs, sym (ap (λ (x : MixerState). length x.log.entries) c.1.same) ∙ e ∙ ap (λ (x : MixerState). x.cycles) c.1.same)

  by_exit : (b : Bool) → m.exited ≡ b → ⊥
  by_exit true over = unlike (ap is_spent (once.exited (ap (λ (x : MixerState). x.exited) c.1.same ∙ over)).0 ∙ exit)
  by_exit false runs =
      let goes : is_over mid ≡ false = neither_is mid.exited (length mid.log.entries == mid.cycles) (ap (λ (x : MixerState). x.exited) c.1.same ∙ runs) (never_true (length mid.log.entries == mid.cycles) (λ full. not_full runs (eqb-true (length mid.log.entries) mid.cycles full))) in
      let added = once.adds goes in
      unlike (ap is_spent added.1 ∙ ap is_spent added.2.legal.what ∙ not_spent (cold_done (adopted_states mid) (all_entries sound.earlier mid)) (state_of (adopted_states mid) added.0.state))

  -- a cycle for which the log has room answers no Spent
  pub never_spent : ⊥
  never_spent = by_exit m.exited refl

spent_is : (a : Cycle) → IsSpent (Ok a) → (n : ℕ) × (a ≡ cycle.Spent n)
spent_is (cycle.Spent n) e = (n, refl)
spent_is _ e = absurd e

-- a cycle behind which room was made goes on
pub goes_on : (m x m' : MixerState) (out out' : List Frame) (answer : Cycle) → 1 ≤ m.cycles → MakesRoom m true x → IsSound x → Cycles x out answer m' out' → IsSpent (Ok answer) → ⊥
goes_on m x m' out out' answer some made sound c told = let is = spent_is answer told in never_spent x m' out out' answer is.0 (has_room m x some made) sound c is.1
