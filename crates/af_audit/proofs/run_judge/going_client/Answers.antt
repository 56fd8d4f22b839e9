use Rattle.std.proofs.Common.{◌≡◌, ◌∙◌, true, false, true≢false, arith, sym, ap}
use Rattle.af_audit.proofs.Common.{TrackJudge, all_more}
use Rattle.std.proofs.lemmas.List as lists
use Rattle.af_audit.specs.RunKept.{client_ended}
use Rattle.af_audit.proofs.run_judge.going_client.Goals as goal

pub loop-at-init : goal.loop-at-init
loop-at-init c = λ i lt. absurd (omega (arith, lt))

pub returns-then-not-has_ended : goal.returns-then-not-has_ended
returns-then-not-has_ended c =
    let tracks = c.args.tracks.now in
    let at = c.loop-at.at in
    let t = c.index-tracks-at in
    let here : client_ended tracks at ≡ false =
    lists.get_or-map (λ (t : TrackJudge). t.client.client.ended) tracks at t.result true c.loop-at-test.true ∙ (sym (ap (λ (t : TrackJudge). t.client.client.ended) t.is) ∙ (sym c.has_ended.ensures ∙ c.if-not-has_ended.true)) in
    (c.loop-at-test.true, (λ h. true≢false (sym h ∙ here)), c.loop-at.invariant)

pub loop-at-preserved : goal.loop-at-preserved
loop-at-preserved c =
    let tracks = c.args.tracks.now in
    let at = c.loop-at.at in
    let t = c.index-tracks-at in
    let here : client_ended tracks at ≡ true =
    lists.get_or-map (λ (t : TrackJudge). t.client.client.ended) tracks at t.result true c.loop-at-test.true ∙ (sym (ap (λ (t : TrackJudge). t.client.client.ended) t.is) ∙ (sym c.has_ended.ensures ∙ c.if-not-has_ended.false)) in
    all_more (λ i. client_ended tracks i ≡ true) at c.loop-at.invariant here

pub returns : goal.returns
returns c = λ i lt. c.loop-at.invariant i (let end = c.loop-at-test.false in omega (arith, lt, end))
