use Rattle.af_mixer_ends.proofs.fast_end.cycle_in.Goals as goal

pub returns-clause-order : goal.returns-clause-order
returns-clause-order g c = record { earlier = c.requires.order.earlier; order = c.cycle.ensures.order c.requires.order.earlier c.requires.order.order }
