use Rattle.af_block_tests.proofs.relay.send.Given as goal

abbrev pub ghosts-send_in : goal.ghosts-send_in
ghosts-send_in a = record { name = a.blank.name; parts = a.blank.parts }
