use Rattle.std.proofs.Common.{◌≡◌, ◌↔◌, IsTrue, Bool, true, false, not, true≢false, refl, ap, subst, ◌∙◌, List}
use Rattle.af_judge.proofs.Common.{CommandLook, HasDueLooks, after_commands, after_part, told_by_report, track_seen}
use Rattle.std.proofs.Math.Bool.{beq}
use Rattle.af_judge.proofs.ServedExactly.{served_by}
use Rattle.af_judge.proofs.due_looks.Ready.is_served.Goals as goal

-- a test of two answers says whether they are the same
same : (a b : Bool) → not (beq a b) ≡ false → a ≡ b
same true true e = refl
same false false e = refl
same true false e = absurd (true≢false e)
same false true e = absurd (true≢false e)

pub returns : goal.returns
returns c =
    let self = c.args.self in
    let looks : c.as_slice-looks.result.now ≡ c.args.seen.now.looks.items = c.as_slice-looks.ensures in
    served_by self.given self.heard (track_seen c.args.seen.now) self.track c.served.result.status c.has_due_looks.result c.is_told.result c.is_stored.result
    (subst (λ (xs : List CommandLook). IsTrue c.has_due_looks.result ↔ HasDueLooks self.given self.heard.flush_seen xs self.track) looks c.has_due_looks.ensures) c.if-not-has_due_looks.false
    (same c.args.seen.now.disabled c.is_told.result c.if-seen-is_told.false)
    (c.is_told.ensures ∙ ap (λ (xs : List CommandLook). told_by_report self.heard.known (after_commands self.given self.heard xs self.track).life) looks)
    (ap (λ t. t.status) c.served.ensures ∙ ap (λ (xs : List CommandLook). (after_part self.given self.heard xs self.track).status) looks)
    c.is_stored.ensures
