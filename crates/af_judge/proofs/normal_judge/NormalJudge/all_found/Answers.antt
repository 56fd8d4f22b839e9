use Rattle.std.proofs.Common.{ap, ◌∙◌, if◌then◌else◌, List, map}
use Rattle.af_judge.proofs.Common.{FastState, TrackKept, take_all, welcomed}
use Rattle.af_judge.specs.NormalJudged.{NormalJudged}
use Rattle.af_judge.proofs.NormalKept.{acked_is}
use Rattle.af_judge.proofs.normal_judge.NormalJudge.all_found.Goals as goal

pub returns : goal.returns
returns c =
    let F : NormalJudged → List TrackKept → List TrackKept = λ j ts. map (λ (t : TrackKept). if c.args.ack then welcomed j.last t else t) ts in
    c.loop-track.invariant
    ∙ ap (F c.args.self.now) (take_all c.loop-track.track-index c.tracks-track-items.result.now c.loop-track-test.false ∙ c.tracks-track-items.ensures ∙ ap (λ (j : NormalJudged). j.plain.kept.tracks) c.self.view_is)
    ∙ ap (λ (last : FastState). map (λ (t : TrackKept). if c.args.ack then welcomed last t else t) c.args.self.now.plain.kept.tracks) c.requires.judged.last
    ∙ acked_is c.args.ack c.args.self.now.plain.kept
