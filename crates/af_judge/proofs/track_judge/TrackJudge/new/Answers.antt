use Rattle.std.proofs.Common.{◌∙◌, ap, subst}
use Rattle.af_judge.proofs.Common.{Shape, Track, command_shape, new_client, new_side}
use Rattle.af_judge.specs.Blocks.{new_judged}
use Rattle.af_judge.specs.Tracks.{KeepsTrack}
use Rattle.af_judge.proofs.track_judge.TrackJudge.new.Goals as goal

pub returns-clause-kept : goal.returns-clause-kept
returns-clause-kept c = λ ops words.
    let P : Shape → Type 0 = λ s. let t : Track = record { file = words; client = new_client ops; stream = new_side s; commands = new_side command_shape } in KeepsTrack ops c.of.result t in
    subst P c.stream_shape-shape.ensures.shape (c.of.ensures.kept ops words)

pub returns-clause-blocks : goal.returns-clause-blocks
returns-clause-blocks c = (c.of.ensures.blocks.0 ∙ ap (λ (s : Shape). new_judged s c.args.stream) c.stream_shape-shape.ensures.shape, c.of.ensures.blocks.1)
