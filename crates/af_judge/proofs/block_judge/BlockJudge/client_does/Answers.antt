use Rattle.std.proofs.Common.{◌∙◌}
use Rattle.af_judge.proofs.BlockKept.{client_kept_more}
use Rattle.af_judge.proofs.block_judge.BlockJudge.client_does.Goals as goal

pub invariant_of-self-2 : goal.invariant_of-self-2
invariant_of-self-2 c =
    client_kept_more c.self.inside.server c.self.inside.tame c.stays_tame-self-inside.result c.self.inside.raised c.saturating_add-self-inside.result c.from.result c.self.inside.lists c.client_does.new.self c.args.event
    c.self.invariant c.in_ok-client_does.ensures.told c.stays_tame-self-inside.ensures (c.from.ensures ∙ c.raised_by.ensures) c.saturating_add-self-inside.ensures
