use Rattle.std.proofs.Common.{subst, map, Bool}
use Rattle.af_judge.proofs.Common.{packed_word}
use Rattle.af_judge.specs.Tracks.{Makes}
use Rattle.af_judge.proofs.TrackKept.{turn_long, turn_made, turn_unmade}
use Rattle.af_judge.proofs.track_judge.TrackJudge.client_turn.Goals as goal

pub returns-then-calls-gt-MOST_CALLS-clause-turn : goal.returns-then-calls-gt-MOST_CALLS-clause-turn
returns-then-calls-gt-MOST_CALLS-clause-turn c = λ t long kept. turn_long t c.args.calls.now c.if-calls-gt-MOST_CALLS.true

pub returns-then-not-branch-clause-turn : goal.returns-then-not-branch-clause-turn
returns-then-not-branch-clause-turn c =
    let file = map packed_word c.args.file.now in
    let P : Bool → Type 0 = λ b. Makes b c.args.ops.now file c.args.calls.now c.args.self.now c.makes.new.self in
    λ t long kept. turn_unmade c.args.ops.now file c.args.calls.now c.args.self.now c.makes.new.self (subst P c.if-not-branch.true c.in_ok-makes.ensures.made) t long kept

pub returns-clause-turn : goal.returns-clause-turn
returns-clause-turn c =
    let file = map packed_word c.args.file.now in
    let P : Bool → Type 0 = λ b. Makes b c.args.ops.now file c.args.calls.now c.args.self.now c.makes.new.self in
    λ t long kept. turn_made c.args.ops.now file c.args.calls.now c.ends.result c.args.self.now c.makes.new.self c.ends.new.self c.if-calls-gt-MOST_CALLS.false (subst P c.if-not-branch.false c.in_ok-makes.ensures.made) c.ends.ensures.ends t long kept
