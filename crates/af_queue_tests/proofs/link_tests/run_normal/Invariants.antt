use Rattle.af_queue_tests.proofs.link_tests.run_normal.Given as goal

abbrev pub ghosts-put_in : goal.ghosts-put_in
ghosts-put_in a = record { name = a.blank.name; parts = a.blank.parts }
