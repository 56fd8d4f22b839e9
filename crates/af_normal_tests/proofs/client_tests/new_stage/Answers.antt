use Rattle.af_normal_tests.proofs.client_tests.new_stage.Goals as goal

pub returns-clause-work : goal.returns-clause-work
returns-clause-work c = c.in_ok-sides.ensures.work
