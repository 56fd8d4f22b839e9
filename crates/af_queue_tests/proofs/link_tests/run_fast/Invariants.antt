use Rattle.af_queue_tests.proofs.link_tests.run_fast.Given as goal

abbrev pub ghosts-take_in : goal.ghosts-take_in
ghosts-take_in a = record { name = a.blank.name; parts = a.blank.parts }
