use Rattle.std.specs.Prelude.{◌↔◌}
use Rattle.std.proofs.Common.{◌≡◌, Some, get_or, subst, arith}
use Rattle.af_judge.proofs.Common.{IsTrue, get_or_from_slice_get, on_ok, slice_get, slice_get-get_or}
use Rattle.af_judge.specs.declared.track_judge.TrackJudge.{TrackJudge}
use Rattle.af_judge.specs.Blocks.{listed_in}
use Rattle.af_judge.specs.FastKept.{IsLookRight}
use Rattle.af_judge.specs.Servers.{LooksRightly}
use Rattle.af_judge.proofs.fast_judge.play_track.Goals as goal

pub returns-clause-right : goal.returns-clause-right
returns-clause-right c =
    let tracks = c.args.tracks.now in
    let here : TrackJudge = get_or tracks c.args.track c.index-tracks-at.result in
    let Right : TrackJudge → Type 0 = λ t. LooksRightly t.stream.lawful c.args.asked (listed_in t.stream) c.args.slot.now in
    let there : slice_get tracks c.args.track ≡ Some here = slice_get-get_or tracks c.args.track c.index-tracks-at.result (omega arith) in
    on_ok (λ yes. IsTrue yes ↔ Right here) (λ yes. IsTrue yes ↔ IsLookRight c.args.asked c.args.slot.now c.args.track tracks) c.played.result
    (λ yes h. (
      λ y t is. subst Right (get_or_from_slice_get tracks c.args.track t c.index-tracks-at.result is) (h.0 y),
      λ r. h.1 (r here there),
    )) c.played.ensures.right
