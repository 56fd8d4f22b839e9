use Rattle.std.proofs.Common.{length, ap, ◌∙◌}
use Rattle.af_latest.specs.Laws.{last_of, stores}
use Rattle.af_static.specs.Loops.{opening}
use Rattle.af_static.proofs.Numbering.{stores_met}
use Rattle.af_static.proofs.Newest.{last_met}
use Rattle.af_static.proofs.in_hand.meet_first.Goals as goal

pub returns-clause-newest : goal.returns-clause-newest
returns-clause-newest g c = (
  ap (last_of opening) c.meet_static.ensures.setter.1 ∙ last_met (length c.args.player.now.events) c.args.setter.now.events,
  ap stores c.meet_static.ensures.setter.1 ∙ stores_met (length c.args.player.now.events) c.args.setter.now.events,
)
