use Rattle.af_queue_tests.proofs.latest_tests.store_all.Given as goal

abbrev pub ghosts-store_by : goal.ghosts-store_by
ghosts-store_by a = record { name = a.blank.name; parts = a.blank.parts }
