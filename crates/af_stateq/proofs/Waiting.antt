-- Pushes and looks that wait.
use Rattle.std.proofs.Common.{◌≡◌, ◌≢◌, ℕ, zero, suc, ◌+◌, ◌-◌, ◌<◌, ◌==◌, true, false, List, [], ◌∷◌, ◌++◌, replicate, refl, ap, sym, ◌∙◌, subst, arith, append_assoc, append-nil}
use Rattle.af_stateq.proofs.Common.{Busy, Clean, MutatorEvent, Pushed, SawAck, not_both}
use mathlib.Core.Logic.{dite}
use native.Mathlib.Decide.{ℕ_discrete}
use Rattle.af_base.specs.declared.state.Push.{Push}
use Rattle.af_stateq.specs.Shelved.{word}
use Rattle.af_stateq.specs.Ends.{saw}
use Rattle.af_stateq.specs.Mutates.{Mutates}
use Rattle.af_stateq.specs.Answers.{SeesOlder, WasPushed, waited, UntilPushed}

replicate-end : {X : Type 0} (n : ℕ) (x : X) → replicate n x ++ x ∷ [] ≡ replicate (suc n) x
replicate-end zero x = refl
replicate-end (suc n) x = ap (λ l. x ∷ l) (replicate-end n x)

module _ {P K : Type 0} (m : Mutates P K) where
  -- after no looks it is the same
  pub none_waited : waited 0 m ≡ m
  none_waited i = record m { past = record m.past { events = append-nil m.past.events i } }

  -- one look more
  pub one_more : (n a : ℕ) (w m' : Mutates P K) → w ≡ waited n m → SeesOlder w m' a → m' ≡ waited (suc n) m
  one_more n a w m' e s =
      let shown : m' ≡ record (waited n m) { past = saw a [] (waited n m).past } = s.2 ∙ ap (λ (z : Mutates P K). record z { past = saw a [] z.past }) e in
      let number : w.past.number ≡ m.past.number = ap (λ (z : Mutates P K). z.past.number) e in
      let last : ◌≡◌ {A = MutatorEvent P} (SawAck a []) (SawAck (m.past.number - 1) []) = (let o = s.1 in ap (λ k. SawAck k []) (omega arith)) in
      let clear : (word a == word m.past.number) ≡ m.past.clear = ap (λ (z : Mutates P K). z.past.clear) (sym shown) ∙ s.4 ∙ sym s.3 ∙ ap (λ (z : Mutates P K). z.past.clear) e in
      let events : (m.past.events ++ replicate n (SawAck (m.past.number - 1) [])) ++ SawAck a [] ∷ [] ≡ m.past.events ++ replicate (suc n) (SawAck (m.past.number - 1) [])
      = append_assoc m.past.events (replicate n (SawAck (m.past.number - 1) [])) (SawAck a [] ∷ [])
      ∙ ap (λ (x : MutatorEvent P). m.past.events ++ (replicate n (SawAck (m.past.number - 1) []) ++ x ∷ [])) last
      ∙ ap (λ (l : List (MutatorEvent P)). m.past.events ++ l) (replicate-end n (SawAck (m.past.number - 1) [])) in
      shown ∙ λ i. record m { past = record m.past { clear = clear i; events = events i } }

  -- a push that isn't Busy, after n that were
  pub pushed_at_last : (answer : Push) (n : ℕ) (w m' : Mutates P K) (s0 s s' : ℕ) → w ≡ waited n m → s ≡ s0 + n → (0 < n → m.dirty ≡ true) → WasPushed w answer m' s s' → ((seen expected : ℕ) → answer ≢ Busy seen expected)
      → UntilPushed m answer m' s0 s'
  pushed_at_last Clean n w m' s0 s s' e steps dirty p never =
      let clean : m.dirty ≡ false = ap (λ (z : Mutates P K). z.dirty) (sym e) ∙ p.0 in
      dite (ℕ_discrete n 0)
      (λ z. (clean, p.1 ∙ e ∙ ap (λ k. waited k m) z ∙ none_waited, (let t = p.2 in omega arith)))
      (λ nz. absurd (not_both m.dirty (dirty (omega arith)) clean))
  pushed_at_last (Busy seen expected) n w m' s0 s s' e steps dirty p never = absurd (never seen expected refl)
  pushed_at_last (Pushed number) n w m' s0 s s' e steps dirty p never = (n, subst (λ (z : Mutates P K × ℕ). WasPushed z.0 (Pushed number) m' z.1 s') (λ i. (e i, steps i)) p)
