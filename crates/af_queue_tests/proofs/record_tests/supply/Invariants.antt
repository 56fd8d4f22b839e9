use Rattle.af_queue_tests.proofs.record_tests.supply.Given as goal

abbrev pub ghosts-supply_in : goal.ghosts-supply_in
ghosts-supply_in a = record { name = a.blank.name; parts = a.blank.parts }
