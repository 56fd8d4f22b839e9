use Rattle.af_stateq.proofs.Seating.{opens}
use Rattle.af_stateq.proofs.make.table_of.Goals as goal

pub new-requires : goal.new-requires
new-requires g c = rw c.in_ok-places.ensures (opens _ _ _)
