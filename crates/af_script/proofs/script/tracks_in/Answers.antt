use Rattle.std.proofs.Common.{sym, ap, ◌∙◌, arith}
use Rattle.std.proofs.lemmas.Grind.{common_steps}
use Rattle.af_script.specs.Reading.{track_item, track_if}
use Rattle.af_script.proofs.Each.{ReadSoFar-more}
use Rattle.af_script.proofs.script.tracks_in.Goals as goal

pub loop-index-preserved : goal.loop-index-preserved
loop-index-preserved c = record {
  so_far = rw c.in_ok-push.ensures.items
      (ReadSoFar-more track_item c.args.values.now c.loop-index.tracks.items c.loop-index.index c.index-values-index.result c.in_ok-track.track
      (omega arith) c.index-values-index.is
      (ap (track_if c.loop-index.index) (sym c.in-Some.ensures) ∙ c.in_ok-track.ensures) c.loop-index.invariant.so_far);
  count = grind (arith, common_steps);
}
