-- A turn of the fast mixer that hadn't ended is a step of the run.
use Rattle.std.proofs.Common.{◌≡◌, ℕ, zero, suc, Bool, true, false, List, [], take, refl, sym, ap, subst, ◌∙◌}
use Rattle.af_render_law.proofs.Common.{Cycle, IsFastTurn, IsQuiet, LeadLent, Marks, MatchBool-at_false, NormalKept, Session, SessionState, StandsBetween, WritesCycle, ends_keep, entries_grown, fast_round, given_of, is_mixed, kept_of, still_round}
use Rattle.af_script.specs.declared.op.TurnSpec.TheVariants as makes
use Rattle.af_rendering.proofs.RoundTold.{log_turned}
use Rattle.af_render_law.proofs.Chain.{FastTurnIsAStep}
use Rattle.af_render_law.proofs.IdlePoll.{IsBetween}
use Rattle.af_render_law.proofs.FastRound.{fast_between, fast_step}
use Rattle.af_told_law.proofs.MixTold.{mix_told}

-- what the ends of the queue stand on between two rounds
pub between_by : (x : SessionState) → StandsBetween x → IsBetween x
between_by x h = record { step = h.step; history = h.history; state = h.leads.state; last = h.leads.last }

-- what the normal mixer keeps stays as it is in the cycles of a turn
kept_cycle : (x y : SessionState) (answer : Cycle) (bytes : List ℕ) → WritesCycle x answer bytes y → kept_of y.normal ≡ kept_of x.normal
kept_cycle x y answer bytes w = ap kept_of (ap (λ (z : SessionState). z.normal) w.cycle.others ∙ w.cycle.meets.ends.normal)

fast_kept : (count : ℕ) (x : SessionState) (bytes : List ℕ) (y : SessionState) → IsFastTurn count x bytes y → kept_of y.normal ≡ kept_of x.normal
fast_kept zero x bytes y turn = ap (λ (z : SessionState). kept_of z.normal) turn.1
fast_kept (suc left) x bytes y (answer, next, front, back, w, bytes_are, goes, stops) = by_mixed (λ is. fast_kept left next back y (goes is)) (is_mixed answer) refl
  where
    by_mixed : (is_mixed answer ≡ true → kept_of y.normal ≡ kept_of next.normal) → (b : Bool) → is_mixed answer ≡ b → kept_of y.normal ≡ kept_of x.normal
    by_mixed later true is = later is ∙ kept_cycle x next answer front w
    by_mixed later false is = ap (λ (z : SessionState). kept_of z.normal) (stops is).1 ∙ kept_cycle x next answer front w

pub fast_turns_step : (s : Session) (marks : Marks) → FastTurnIsAStep s marks
fast_turns_step s marks run count x r bytes y entries left holds runs some room grown w =
    let turns = MatchBool-at_false ((r ≡ still_round x) × (bytes ≡ []) × (w.turned ≡ x)) ((r ≡ fast_round x w.turned) × IsFastTurn count x bytes w.turned) runs w.turns in
    let log : y.fast.log ≡ w.turned.fast.log = log_turned (given_of s) (makes.Fast count) x r bytes y w in
    let seen : take r.cycles entries ≡ entries_grown x.fast.log w.turned.fast.log = grown ∙ ap (entries_grown x.fast.log) log in
    let between = between_by x holds.stands in
    let step = fast_step s marks run count x r bytes y entries (λ links run d x g out answer out'. mix_told links s run d x g out answer out') holds.told holds.marked between runs some room w seen in
    let after : IsBetween y = fast_between s marks run count x r bytes y entries (λ links run d x g out answer out'. mix_told links s run d x g out answer out') holds.told holds.marked between runs some room w seen in
    let kept : kept_of y.normal ≡ kept_of x.normal =
    ap kept_of (ap (λ (z : SessionState). z.normal) w.ends ∙ (ends_keep w.met).normal ∙ w.meets.ends.normal) ∙ fast_kept count x bytes w.turned turns.1 in (
      step,
      record {
        step = after.step;
        history = after.history;
        leads = record {
          draft = subst (λ (k : NormalKept). LeadLent k.draft k.tracks) (sym kept) holds.stands.leads.draft;
          last = after.last;
          state = after.state;
        };
        quiet = subst IsQuiet (sym kept) holds.stands.quiet;
      },
    )
