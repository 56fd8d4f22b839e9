use Rattle.std.proofs.Common.{◌≡◌, if◌then◌else◌, map, take}
use Rattle.af_judge.proofs.Common.{TrackKept, welcomed}
use Rattle.af_judge.proofs.normal_judge.NormalJudge.all_found.Given as goal

abbrev pub invariant-loop-track : goal.invariant-loop-track
invariant-loop-track l = l.tracks.items ≡ map (λ (t : TrackKept). if l.ack then welcomed l.self.last t else t) (take l.track-index l.track-items)
