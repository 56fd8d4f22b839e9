use Rattle.std.proofs.Common.{◌≡◌, ◌∙◌, ◌<◌, ℕ, IfSome, [], length, map, arith, sym, ap, subst}
use Rattle.af_audit.proofs.Common.{TrackJudge, TrackSpec, calls_at, get_or_default, length-set, no_spec, packed_word, slice_index_or, there_is}
use Rattle.af_audit.proofs.CallsJudged.{few_after, more, moved_answer}
use Rattle.af_audit.proofs.run_judge.call_all.Goals as goal

pub loop-at-preserved : goal.loop-at-preserved
loop-at-preserved c =
    let now = c.loop-at.tracks in
    let first = c.args.tracks.now in
    let specs = c.args.specs.now in
    let files = c.args.files.now in
    let at : ℕ = c.loop-at.at in
    let d = c.index-tracks-at.result in
    let t : TrackJudge = slice_index_or now at d in
    let k : TrackJudge = c.client_turn.new.self in
    let legal = c.in_ok-legal.legal in
    let answers = c.in_ok-legal.ensures in
    let many : length now ≡ length first = c.loop-at.invariant.count in
    let lt : at < length now = (let a = c.loop-at-test.true in omega (arith, a, many)) in
    let specs_many = c.requires.specs in
    let files_many = c.requires.files in
    let spec_is : slice_index_or specs at c.index-specs-at.result ≡ slice_index_or specs at no_spec = get_or_default specs at c.index-specs-at.result no_spec (omega (arith, lt, many, specs_many)) in
    let file_is : c.index-files-at.result ≡ slice_index_or files at [] = c.index-files-at.is ∙ get_or_default files at c.index-files-at.result [] (omega (arith, lt, many, files_many)) in
    let ops : c.as_slice.result.now ≡ (slice_index_or specs at no_spec).ops = c.as_slice.ensures.ops ∙ ap (λ (x : TrackSpec). x.ops) spec_is in
    let file : map packed_word c.frames-file.result.now ≡ map packed_word (slice_index_or files at []) = ap (map packed_word) (c.frames-file.ensures ∙ file_is) in
    record {
      least = subst (λ o. IfSome o (λ track. track < length first)) (sym c.found_after-least.ensures) (few_after at (length first) c.loop-at.least legal c.loop-at.invariant.least (omega (arith, lt, many)));
      count = length-set now at k ∙ many;
      calls = more specs files (calls_at c.args.journal.now c.args.round) first now at t k (there_is now at d lt) legal c.loop-at.least c.found_after-least.result many c.loop-at.invariant.calls answers.servers
          (moved_answer t k legal _ _ _ _ _ _ ops file c.client-calls.ensures answers.turn) c.found_after-least.ensures;
    }
