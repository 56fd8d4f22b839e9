use Rattle.af_judge.proofs.OnlyMeetings.{hand_more}
use Rattle.af_judge.proofs.parties_judge.PartiesJudge.meet_client.Goals as goal

pub invariant_of-self : goal.invariant_of-self
invariant_of-self c none =
    hand_more c.hand_does.result c.self.inside.lists c.hand_does.new.self c.clients-client.result c.clients-client.ensures c.hand_does.ensures.told c.hand_does.ensures.kept (c.self.invariant none)
