use Rattle.std.proofs.Common.{rules}
use Rattle.af_stateq.proofs.Allowed.{meets_allowed}
use Rattle.af_stateq.proofs.Seating.{splits_allowed, joins_allowed}
use Rattle.af_stateq.proofs.make.meet_ends.Goals as goal

pub split_seat-part-requires : goal.split_seat-part-requires
split_seat-part-requires g c = (search rules, search rules, splits_allowed _ _ _ _ c.observer.invariant.observes)

pub join_seat-requires : goal.join_seat-requires
join_seat-requires g c = (search rules, search rules, search rules, search rules, joins_allowed _ _ _ _ _ _ (search rules))

pub load-requires : goal.load-requires
load-requires g c = (search rules, search rules, meets_allowed _ _ _ _ _ (search rules) (search rules) (search rules))

pub split_seat-part-requires-2 : goal.split_seat-part-requires-2
split_seat-part-requires-2 g c = (search rules, search rules, splits_allowed _ _ _ _ (search rules))

pub join_seat-requires-2 : goal.join_seat-requires-2
join_seat-requires-2 g c = (search rules, search rules, search rules, search rules, joins_allowed _ _ _ _ _ _ (search rules))
