use Rattle.af_fast_tests.proofs.tests.one_cycle.Goals as goal

pub returns-clause-order : goal.returns-clause-order
returns-clause-order g c = let o = c.requires.order in record { earlier = o.earlier; order = c.cycle.ensures.order o.earlier o.order }
