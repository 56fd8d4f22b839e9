use Rattle.af_ends.proofs.stream_server.StreamServer.close.Given as goal

abbrev pub ghosts-meet_in : goal.ghosts-meet_in
ghosts-meet_in a = record { name = a.blank.name; parts = a.blank.parts }
