use Rattle.af_judge.proofs.OnlyMeetings.{client_more}
use Rattle.af_judge.proofs.parties_judge.PartiesJudge.client_does.Goals as goal

pub invariant_of-self : goal.invariant_of-self
invariant_of-self c none =
    client_more c.client_does.result c.self.inside.lists c.client_does.new.self c.args.event c.client_does.ensures.told c.client_does.ensures.kept (c.self.invariant none)
