-- A turn is followed: the report that it loads, what it leaves of the mixer, the looks at the queue, and the pipe.
use Rattle.std.specs.Prelude.{◌↔◌}
use Rattle.std.proofs.Common.{◌≡◌, ℕ, ◌+◌, ◌-◌, ◌<◌, ◌≤◌, ◌&&◌, not, min, Bool, List, length, take, drop, sym, ap, subst, ◌∙◌, arith}
use Rattle.af_audit.proofs.Common.{CycleEntry, FastKept, FastState, IsRight, IsTrue, NormalJudged, Report, TrackJudge, Turn, TurnJudged, entries_foreseen, foreseen, length-drop, length-take-le, number_found, servers_at, slice_index_or, take-take, turn_steps, with_steps}
use Rattle.af_audit.specs.declared.run_judge.RunJudge.{RunJudge}
use Rattle.af_audit.specs.RoundTold.{IsReportOf, TurnTold, pipe_turned, report_turned}

module _ (log : List CycleEntry) (first count : ℕ) (inside : first + count ≤ length log) where
  -- the entries still to come
  abbrev own : List CycleEntry
  own = take count (drop first log)

  -- the entries that come before a number
  ahead_part : (n : ℕ) → take (min count n) (drop first log) ≡ take (min (length own) n) own
  ahead_part n = sym (take-take (min count n) count (drop first log) (omega arith)) ∙ ap (λ (k : ℕ). take (min k n) own) (sym (length-take-le count (drop first log) (let l = length-drop first log in omega (arith, l, inside))))

  -- the report that a turn finds
  pub report_so : (f : FastKept) (states xs : List FastState) (tracks : List TrackJudge) (found number : ℕ) (report : Report) → states ≡ xs → found ≡ number → (found ≤ f.before.cycle → report ≡ f.before)
      → (f.before.cycle < found → f.told.report.cycle < found → report ≡ (entries_foreseen states (take (min count (found - f.told.report.cycle)) (drop first log)) (foreseen (servers_at tracks) f.told)).told.report)
      → (f.before.cycle < found → found ≤ f.told.report.cycle → report ≡ slice_index_or f.reports (found - f.before.cycle - 1) f.before) → IsReportOf f xs tracks own number report
  report_so f states xs tracks found number report same is before ahead told = subst (λ (n : ℕ). IsReportOf f xs tracks own n report) is (record {
    before = before;
    ahead = λ past behind. ahead past behind ∙ (λ i. (entries_foreseen (same i) (ahead_part (found - f.told.report.cycle) i) (foreseen (servers_at tracks) f.told)).told.report);
    told = told;
  })

-- all that a turn leaves
pub turn_so : (j k : RunJudge) (tracks after : List TrackJudge) (later : List CycleEntry) (e : Turn) (report : Report) (legal ended right : Bool) (next : NormalJudged) (states : List FastState)
    → IsReportOf j.fast j.normal.states tracks later (number_found j.fast e.cycle) report → IsTrue legal ↔ IsRight j.normal.plain.setup report tracks j.normal.plain.kept e
    → ended ≡ j.normal.plain.kept.ended → right ≡ (legal && not ended) → TurnJudged report e tracks after j.normal next
    → states ≡ j.normal.states → k ≡ record j { normal = next; fast = record j.fast { told = record j.fast.told { draft = next.plain.kept.draft }; queue = with_steps (turn_steps (length states) e.ended e.ack e.push) j.fast.queue; pipe = pipe_turned next.setup e j.fast.pipe }; report = report_turned e j.report }
    → TurnTold j tracks later e right k after
turn_so j k tracks after later e report legal ended right next states report_is legal_is ended_is right_is judged states_is kept = record {
  report = report;
  report_is = report_is;
  legal = legal;
  legal_is = legal_is;
  right_is = right_is ∙ ap (λ (b : Bool). legal && not b) ended_is;
  mixer = subst (TurnJudged report e tracks after j.normal) (sym (ap (λ (r : RunJudge). r.normal) kept)) judged;
  fast = ap (λ (r : RunJudge). r.fast) kept ∙ (λ i. record j.fast { told = record j.fast.told { draft = (next_is i).plain.kept.draft }; queue = with_steps (turn_steps (length (states_is i)) e.ended e.ack e.push) j.fast.queue; pipe = pipe_turned (judged.same.0 i) e j.fast.pipe });
  reported = ap (λ (r : RunJudge). r.report) kept;
  cycles = ap (λ (r : RunJudge). r.cycles) kept;
}
  where
    next_is : next ≡ k.normal
    next_is = sym (ap (λ (r : RunJudge). r.normal) kept)
