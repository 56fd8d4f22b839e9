use Rattle.af_stateq.proofs.Holders.{one_holder}
use Rattle.af_stateq.proofs.laws.each_item_has_one_holder.Goals as goal

pub returns : goal.returns
returns g c first ms os = one_holder first ms os
