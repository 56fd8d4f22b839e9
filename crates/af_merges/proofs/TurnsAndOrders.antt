-- Turns that lead through three lists, and a legal order of all their events, are two forms of one thing.
use Rattle.std.proofs.Common.{◌↔◌}
use Rattle.af_merges.proofs.Common.{TrackPoint}
use Rattle.af_merges.specs.Merges.{HasLegalOrder}
use Rattle.af_merges.specs.Stages.{Lists, HasWalk}
use Rattle.af_merges.proofs.OrderToTurns.{HasWalk-from_order}
use Rattle.af_merges.proofs.TurnsToOrder.{HasLegalOrder-from_walk}

pub HasLegalOrder-walk : (l : Lists) (from : TrackPoint) → HasWalk l from ↔ HasLegalOrder from l.client l.server l.hand
HasLegalOrder-walk l from = (HasLegalOrder-from_walk l from, HasWalk-from_order l from)
