use Rattle.af_queue_tests.proofs.latest_tests.load_all.Given as goal

abbrev pub ghosts-load_by : goal.ghosts-load_by
ghosts-load_by a = record { name = a.blank.name; parts = a.blank.parts }
