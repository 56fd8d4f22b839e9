use Rattle.af_ends.proofs.stream_server.StreamServer.available.Given as goal

abbrev pub ghosts-available_in : goal.ghosts-available_in
ghosts-available_in a = record { name = a.blank.name; parts = a.blank.parts }
