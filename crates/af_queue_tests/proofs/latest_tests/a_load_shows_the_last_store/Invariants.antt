use Rattle.af_queue_tests.proofs.latest_tests.a_load_shows_the_last_store.Given as goal

abbrev pub ghosts-loads_in_turn : goal.ghosts-loads_in_turn
ghosts-loads_in_turn g a = record { name = a.blank.name; parts = a.blank.parts }
