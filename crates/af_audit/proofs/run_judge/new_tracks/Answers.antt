use Rattle.std.proofs.Common.{◌≡◌, ◌≤◌, ◌<◌, ◌∷◌, ◌++◌, ◌+◌, [], ℕ, List, length, length-append, arith, sym, ap, subst, ◌∙◌}
use Rattle.af_audit.proofs.Common.{All-get_or, IsTrack, TrackJudge, TrackSpec, get_or_default, no_spec, slice_index_or}
use Rattle.af_audit.specs.RunKept.{AreNewTracks}
use Rattle.af_audit.proofs.TracksMade.{made, made_more}
use Rattle.af_audit.proofs.run_judge.new_tracks.Goals as goal

pub loop-at-preserved : goal.loop-at-preserved
loop-at-preserved c =
    let script = c.args.script.now in
    let rounds = c.args.journal.now.rounds in
    let at : ℕ = c.loop-at.at in
    let now : List TrackJudge = c.loop-at.tracks.items in
    let spec : TrackSpec = c.spec-item.result in
    let k : TrackJudge = c.new.result in
    let many : length now ≡ at = c.loop-at.invariant.count in
    let specs = c.tracks-spec-items.ensures.value in
    let long : length c.tracks-spec-items.result.now ≡ length script.tracks = ap length specs in
    let low : at < length script.tracks = (let a = c.loop-at-test.true in omega (arith, a, long)) in
    let spec_is : spec ≡ slice_index_or script.tracks at no_spec =
    c.spec-item.is ∙ (ap (λ (ss : List TrackSpec). slice_index_or ss at spec) specs ∙ get_or_default script.tracks at spec no_spec low) in
    let form : IsTrack (slice_index_or script.tracks at no_spec) = All-get_or IsTrack script.tracks at no_spec low c.tracks-spec-items.ensures.script.tracks in
    let few : spec.frames ≤ 65536 = (let size = form.buffer.1 in let same = ap (λ (s : TrackSpec). s.frames) spec_is in omega (arith, size, same)) in
    let pushed : c.push.new.self.items ≡ now ++ k ∷ [] = c.in_ok-push.ensures.items in
    record {
      count = ap length pushed ∙ (let l = length-append now (k ∷ []) in omega (arith, l, many));
      new = subst (λ (ts : List TrackJudge). AreNewTracks script rounds (at + 1) ts) (sym pushed)
          (made_more script rounds at now k many c.loop-at.invariant.new
          (made script rounds at k c.version-version.result spec c.is_lawful-stream.result c.is_lawful-commands.result c.version-version.ensures.value spec_is c.is_lawful-stream.ensures c.is_lawful-commands.ensures c.new.ensures.kept c.new.ensures.blocks c.new.ensures.wrap few));
    }
