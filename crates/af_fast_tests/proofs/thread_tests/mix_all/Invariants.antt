use Rattle.af_fast_tests.proofs.thread_tests.mix_all.Given as goal

abbrev pub ghosts-mix_in : goal.ghosts-mix_in
ghosts-mix_in a = record { name = a.blank.name; parts = a.blank.parts }
