use Rattle.af_stateq.proofs.Attached.{stays_until_pushed}
use Rattle.af_stateq.proofs.laws.an_attached_item_stays_until_a_push_carries_it.Goals as goal

pub returns : goal.returns
returns g c m o = stays_until_pushed g.N.Fits.fits m o
