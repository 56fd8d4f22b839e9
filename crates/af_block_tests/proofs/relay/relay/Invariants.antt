use Rattle.af_block_tests.proofs.relay.relay.Given as goal

abbrev pub ghosts-compare_in : goal.ghosts-compare_in
ghosts-compare_in g a = record { name = a.blank.name; parts = a.blank.parts }
