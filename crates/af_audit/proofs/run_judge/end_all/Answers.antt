use Rattle.std.proofs.Common.{◌<◌, ap, ◌∙◌, length, arith}
use Rattle.af_audit.proofs.Common.{get_or_default, slice_set}
use Rattle.std.proofs.lemmas.List.Edits.{map_over_more}
use Rattle.af_audit.specs.RoundTold.{ended_track}
use Rattle.af_audit.proofs.run_judge.end_all.Goals as goal

pub loop-track-preserved : goal.loop-track-preserved
loop-track-preserved c =
    let long = c.loop-track.auto.track-items in
    let below = c.loop-track-test.true in
    let there : c.loop-track.track-index < length c.loop-track.track-items = omega arith in
    ap (slice_set c.loop-track.track-items c.loop-track.track-index) c.end.ensures
    ∙ map_over_more ended_track _ c.loop-track.track-items c.loop-track.track-index _ c.loop-track-test.true c.loop-track.invariant
    (get_or_default c.loop-track.track-items c.loop-track.track-index _ _ there)
