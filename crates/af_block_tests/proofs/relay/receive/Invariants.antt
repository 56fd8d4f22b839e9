use Rattle.af_block_tests.proofs.relay.receive.Given as goal

abbrev pub ghosts-receive_in : goal.ghosts-receive_in
ghosts-receive_in a = record { name = a.blank.name; parts = a.blank.parts }
