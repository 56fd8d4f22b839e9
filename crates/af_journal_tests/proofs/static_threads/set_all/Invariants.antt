use Rattle.af_journal_tests.proofs.static_threads.set_all.Given as goal

abbrev pub ghosts-set_in : goal.ghosts-set_in
ghosts-set_in a = record { name = a.blank.name; parts = a.blank.parts }
