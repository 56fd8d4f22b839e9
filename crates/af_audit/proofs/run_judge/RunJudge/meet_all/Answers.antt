use Rattle.std.proofs.Common.{◌≡◌, ◌∙◌, ◌<◌, ◌↔◌, ℕ, IfSome, IsTrue, length, arith, refl, sym, subst}
use Rattle.af_audit.proofs.Common.{AreShort, BothKeep, TrackJudge, blocks_met, length-set, slice_index_or, there_is}
use Rattle.af_audit.proofs.CallsJudged.{few_after}
use Rattle.af_audit.proofs.MeetingsFound.{none_met, one_met}
use Rattle.af_audit.proofs.run_judge.RunJudge.meet_all.Goals as goal

pub loop-at-init : goal.loop-at-init
loop-at-init c = record { least = tt; count = refl; met = none_met c.args.self.now c.args.tracks.now }

pub loop-at-preserved : goal.loop-at-preserved
loop-at-preserved c =
    let now = c.loop-at.tracks in
    let first = c.args.tracks.now in
    let at : ℕ = c.loop-at.at in
    let t : TrackJudge = slice_index_or now at c.index-tracks-at.result in
    let k : TrackJudge = c.meet.new.track in
    let right = c.in_ok-right.right in
    let answers = c.in_ok-right.ensures in
    let there = c.is_there-there.ensures in
    let many : length now ≡ length first = c.loop-at.invariant.count in
    let lt : at < length now = (let a = c.loop-at-test.true in omega (arith, a, many)) in
    record {
      least = subst (λ o. IfSome o (λ track. track < length first)) (sym c.found_after-least.ensures) (few_after at (length first) c.loop-at.least right c.loop-at.invariant.least (omega (arith, lt, many)));
      count = length-set now at k ∙ many;
      met = one_met c.args.self.now first now at t k (there_is now at c.index-tracks-at.result lt) many c.loop-at.least c.found_after-least.result right c.loop-at.invariant.met
          (answers.met ∙ (λ i. blocks_met (there i) (c.has_hands-hands.ensures i) t)) (subst (λ b. AreShort b k) there answers.short) (subst (λ b. IsTrue right ↔ BothKeep b k) there answers.right) c.found_after-least.ensures;
    }
