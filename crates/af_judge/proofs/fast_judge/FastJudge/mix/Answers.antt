use Rattle.std.proofs.Common.{sym, ◌∙◌}
use Rattle.af_judge.proofs.fast_judge.FastJudge.mix.Goals as goal

pub returns-clause-right : goal.returns-clause-right
returns-clause-right c = (
  λ h.
      (let a = c.both-2.ensures.0 h in
      let b = c.both.ensures.0 a.1 in
      record {
        marked = λ m. c.is_marked.ensures.0 (c.holds_if-marked.ensures.0 a.0 (c.is_mixed.ensures ∙ m));
        submix = c.in_ok-pipe.ensures.right.0 b.0;
        tracks_right = c.in_ok-slots.ensures.right.0 b.1;
      }),
  λ r. c.both-2.ensures.1 (c.holds_if-marked.ensures.1 (λ m. c.is_marked.ensures.1 (r.marked (sym c.is_mixed.ensures ∙ m))), c.both.ensures.1 (c.in_ok-pipe.ensures.right.1 r.submix, c.in_ok-slots.ensures.right.1 r.tracks_right)),
)
