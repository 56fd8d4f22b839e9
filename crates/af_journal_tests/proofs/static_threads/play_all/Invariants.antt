use Rattle.af_journal_tests.proofs.static_threads.play_all.Given as goal

abbrev pub ghosts-play_in : goal.ghosts-play_in
ghosts-play_in a = record { name = a.blank.name; parts = a.blank.parts }
