-- What stands between two rounds stands before the first one.
use Rattle.std.proofs.Common.{◌≡◌, ℕ, inl, true, true≢false, List, [], refl, sym, ap, subst, ◌∙◌, arith}
use Rattle.af_told_law.proofs.Common.{FastState, HasStateHistory, IsNewSession, MutatorEvent, ObserverEvent, ScriptData, ServerState, SessionState, SharedState, carries, initial, kept_of, mutated}
use Rattle.af_runs.specs.Sessions.{script_setup}
use Rattle.af_stateq.proofs.Start.{initial_none}
use Rattle.af_told_law.specs.Between.{StandsBetween, IsQuiet}
use Rattle.af_told_law.specs.Leads.{InStep, Leads}
use Rattle.af_told_law.proofs.Quiet.{new_quiet}

module _ (script : ScriptData) (shared : SharedState) (s : SessionState) (new : IsNewSession script shared s) where
  -- the ends of the queue are in step
  step_first : InStep s.normal.mutator.past s.fast.observer.past
  step_first =
      let m = new.ends.mutator in
      let o = new.ends.observer.0 in
      let none : s.normal.mutator.past.number ≡ 0 = m.silent.0 in
      record {
        tells = record {
          pushed = (λ first. ap (λ (es : List (MutatorEvent ServerState)). (mutated first es).pushed) m.silent.2 ∙ sym none);
          last = (λ some. absurd (omega (arith, some, none)));
        };
        few = omega (arith, o.silent.0);
        same = (λ some. absurd (omega (arith, some, none)));
        knows = inl none;
      }

  carries_none : (x : FastState) → x ≡ initial script.frames → (k : ℕ) → carries x k ≡ true → ⊥
  carries_none x is k on = true≢false (sym on ∙ ap (λ (y : FastState). carries y k) is ∙ initial_none script.frames k)

  -- no state carries anything
  leads_first : Leads s.fast.observer.past.state (kept_of s.normal)
  leads_first = record {
    draft = (λ k lt on. absurd (carries_none s.normal.mutator.draft new.ends.mutator.begins.2 k on));
    last = (λ k lt on. absurd (carries_none s.normal.mutator.past.last new.ends.mutator.begins.1 k on));
    state = (λ k lt on. absurd (carries_none s.fast.observer.past.state new.ends.observer.0.begins k on));
  }

  pub stands_first : StandsBetween s
  stands_first = record {
    step = step_first;
    history = subst (λ (y : List (MutatorEvent ServerState) × List (ObserverEvent ServerState)). HasStateHistory s.normal.mutator.past.first y.0 y.1)
        (λ j. (sym new.ends.mutator.silent.2 j, sym new.ends.observer.0.silent.1 j))
        (record { order = []; is_legal = tt; of_one = refl; of_two = refl });
    leads = leads_first;
    quiet = subst IsQuiet (sym new.kept) (new_quiet (script_setup script));
  }
