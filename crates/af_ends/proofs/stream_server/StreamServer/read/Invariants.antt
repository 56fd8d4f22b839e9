use Rattle.af_ends.proofs.stream_server.StreamServer.read.Given as goal

abbrev pub ghosts-read_in : goal.ghosts-read_in
ghosts-read_in a = record { name = a.blank.name; parts = a.blank.parts }
