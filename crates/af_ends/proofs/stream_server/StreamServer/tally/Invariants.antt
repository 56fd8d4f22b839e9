use Rattle.af_ends.proofs.stream_server.StreamServer.tally.Given as goal

abbrev pub ghosts-tally_in : goal.ghosts-tally_in
ghosts-tally_in a = record { name = a.blank.name; parts = a.blank.parts }
