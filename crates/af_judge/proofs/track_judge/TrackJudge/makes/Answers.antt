use Rattle.std.proofs.Common.{◌≡◌, arith, refl, subst, map, get_or, Bool, MatchBool}
use Rattle.af_judge.proofs.Common.{ClientCall, Track, after_call, packed_word}
use Rattle.af_base.specs.declared.event.ClientCall.TheVariants as call
use Rattle.af_judge.specs.Tracks.{IsCallOf, KeepsTrack}
use Rattle.af_judge.proofs.TrackKept.{makes_more, makes_none, same_trans}
use Rattle.af_judge.proofs.track_judge.TrackJudge.makes.Goals as goal

pub loop-call-preserved : goal.loop-call-preserved
loop-call-preserved c =
    let ops = c.args.ops.now in
    let file = map packed_word c.args.file.now in
    let calls = c.args.calls.now in
    let at = c.loop-call.call-index in
    let d : ClientCall = call.Put 0 0 in
    let answer = get_or calls at d in
    let k = c.loop-call.self in
    let l = c.call.new.self in
    let P : Bool → Type 0 = λ b. (t : Track) → t.file ≡ file → KeepsTrack ops k t → MatchBool b (IsCallOf t answer × KeepsTrack ops l (after_call t answer)) (IsCallOf t answer → ⊥) in
    let now = c.in_ok-call.ensures in
    let before = c.loop-call.invariant in
    record {
      few = (let a = now.calls in let b = before.few in omega (arith, a, b));
      servers = same_trans c.args.self.now k l before.servers now.servers;
      made = makes_more ops file calls at answer d c.args.self.now k l c.loop-call-test.true refl before.made (subst P c.if-not-branch.false now.made);
    }

pub returns-then-not-branch-clause-made : goal.returns-then-not-branch-clause-made
returns-then-not-branch-clause-made c =
    let ops = c.args.ops.now in
    let file = map packed_word c.args.file.now in
    let calls = c.args.calls.now in
    let at = c.loop-call.call-index in
    let d : ClientCall = call.Put 0 0 in
    let answer = get_or calls at d in
    let k = c.loop-call.self in
    let l = c.call.new.self in
    let P : Bool → Type 0 = λ b. (t : Track) → t.file ≡ file → KeepsTrack ops k t → MatchBool b (IsCallOf t answer × KeepsTrack ops l (after_call t answer)) (IsCallOf t answer → ⊥) in
    makes_none ops file calls at answer d c.args.self.now k c.loop-call-test.true refl c.loop-call.invariant.made (subst P c.if-not-branch.true c.in_ok-call.ensures.made)
