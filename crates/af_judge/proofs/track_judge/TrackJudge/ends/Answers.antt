use Rattle.af_judge.proofs.TrackKept.{rests}
use Rattle.af_judge.proofs.track_judge.TrackJudge.ends.Goals as goal

pub returns-clause-ends : goal.returns-clause-ends
returns-clause-ends c = λ t kept. rests c.ends_turn.result c.args.calls c.args.ops.now c.args.self.now c.ends_turn.new.self t c.requires c.if-calls-eq-MOST_CALLS.false c.ends_turn.ensures.ends kept
