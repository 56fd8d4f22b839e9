use Rattle.af_fast_tests.proofs.thread_tests.plays.Given as goal

abbrev pub ghosts-play : goal.ghosts-play
ghosts-play g a = record { name = a.blank.name; parts = a.blank.parts }
