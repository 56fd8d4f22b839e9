use Rattle.af_normal_tests.proofs.client_tests.plays.Given as goal

abbrev pub ghosts-plays_in : goal.ghosts-plays_in
ghosts-plays_in a = record { name = a.blank.name; parts = a.blank.parts }
