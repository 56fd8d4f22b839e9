-- A drained life was stopped at a count that was reached, and not started since.
use Rattle.std.proofs.Common.{◌≡◌, ℕ, ◌≤◌, Bool, true, false, true≢false, sym, refl, subst, MatchBool, inl, inr, List, [], ◌∷◌, max, arith}
use Rattle.af_life.specs.declared.track.Known.{Known}
use Rattle.af_life.specs.declared.track.Life.{Life}
use Rattle.af_life.specs.Commands.{by_command, starts}
use Rattle.af_life.specs.Reports.{by_report}
use Rattle.af_life.specs.Drained.{LifeStep, told, heard_of, cut, life_of, stops, StoppedAt, most_heard}
use Rattle.af_life.proofs.Words.{is_stopping, DrainsInOrder}
use Rattle.af_life.proofs.Effects.{CommandEffect, ReportEffect, command_effect, report_effect}

-- it was stopped by this very command
by_this : (b c : Bool) (A B : Type 0) → b ≡ true → A → MatchBool b A (MatchBool c ⊥ B)
by_this true c A B e a = a
by_this false c A B e a = absurd (true≢false (sym e))

-- it was stopped before, and this command is no START
by_that : (b c : Bool) (A B : Type 0) → b ≡ false → c ≡ false → B → MatchBool b A (MatchBool c ⊥ B)
by_that true c A B e f x = absurd (true≢false e)
by_that false true A B e f x = absurd (true≢false f)
by_that false false A B e f x = x

module _ (steps : List LifeStep) (before : DrainsInOrder steps) where
  told_in_order : (code argument : ℕ) → DrainsInOrder (told code argument ∷ steps)
  told_in_order code argument = record { stopping = stopping; drained = drained; at_rest = (λ h. (e.rests h (before.at_rest (e.drained h).1)).1) }
    where
      t : Life
      t = by_command code argument (life_of steps)

      e : CommandEffect (stops code (life_of steps)) (starts code (life_of steps)) argument (life_of steps) (by_command code argument (life_of steps))
      e = command_effect code argument (life_of steps)

      stopped_at : (b : Bool) → stops code (life_of steps) ≡ b → is_stopping (by_command code argument (life_of steps)) ≡ true → StoppedAt (by_command code argument (life_of steps)).stop_at (told code argument ∷ steps)
      stopped_at true b h = by_this (stops code (life_of steps)) (starts code (life_of steps)) _ _ b (sym (e.stop b))
      stopped_at false b h = by_that (stops code (life_of steps)) (starts code (life_of steps)) _ _ b (e.stopping b h).0
          (subst (λ (n : ℕ). StoppedAt n steps) (sym (e.keep b)) (before.stopping (e.stopping b h).1))

      stopping : is_stopping (by_command code argument (life_of steps)) ≡ true → StoppedAt (by_command code argument (life_of steps)).stop_at (told code argument ∷ steps)
      stopping = stopped_at (stops code (life_of steps)) refl

      drained : (by_command code argument (life_of steps)).drained ≡ true → StoppedAt (by_command code argument (life_of steps)).stop_at (told code argument ∷ steps) × ((by_command code argument (life_of steps)).stop_at ≤ most_heard steps)
      drained h = let was : (life_of steps).drained ≡ true = (e.drained h).1 in
          let no_stop : stops code (life_of steps) ≡ false = (e.rests h (before.at_rest was)).0 in (
            by_that (stops code (life_of steps)) (starts code (life_of steps)) _ _ no_stop (e.drained h).0 (subst (λ (n : ℕ). StoppedAt n steps) (sym (e.keep no_stop)) (before.drained was).0),
            subst (λ (n : ℕ). n ≤ most_heard steps) (sym (e.keep no_stop)) (before.drained was).1,
          )

  heard_in_order : (known : Known) → DrainsInOrder (heard_of known ∷ steps)
  heard_in_order known = record {
    stopping = (λ h. subst (λ (n : ℕ). StoppedAt n steps) (sym e.keep) (before.stopping (e.stopping h)));
    drained = drained;
    at_rest = (λ h. e.rests before.at_rest h);
  }
    where
      e : ReportEffect known (life_of steps) (by_report known (life_of steps))
      e = report_effect known (life_of steps)

      drained : (by_report known (life_of steps)).drained ≡ true → StoppedAt (by_report known (life_of steps)).stop_at steps × ((by_report known (life_of steps)).stop_at ≤ max known.consumed (most_heard steps))
      drained h = elim (e.drained h) as (λ x. StoppedAt (by_report known (life_of steps)).stop_at steps × ((by_report known (life_of steps)).stop_at ≤ max known.consumed (most_heard steps))) [
        | inl was ↦ (subst (λ (n : ℕ). StoppedAt n steps) (sym e.keep) (before.drained was).0, subst (λ (n : ℕ). n ≤ max known.consumed (most_heard steps)) (sym e.keep) (let a = (before.drained was).1 in omega arith))
        | inr now ↦ (subst (λ (n : ℕ). StoppedAt n steps) (sym e.keep) (before.stopping now.0), subst (λ (n : ℕ). n ≤ max known.consumed (most_heard steps)) (sym e.keep) (let a = now.1 in omega arith))
      ]

  cut_in_order : DrainsInOrder (cut ∷ steps)
  cut_in_order = record { stopping = before.stopping; drained = before.drained; at_rest = before.at_rest }

-- at every step of a life
pub drains_in_order : (steps : List LifeStep) → DrainsInOrder steps
drains_in_order [] = record { stopping = (λ h. absurd (true≢false (sym h))); drained = (λ h. absurd (true≢false (sym h))); at_rest = (λ h. absurd (true≢false (sym h))) }
drains_in_order (told code argument ∷ steps) = told_in_order steps (drains_in_order steps) code argument
drains_in_order (heard_of known ∷ steps) = heard_in_order steps (drains_in_order steps) known
drains_in_order (cut ∷ steps) = cut_in_order steps (drains_in_order steps)
