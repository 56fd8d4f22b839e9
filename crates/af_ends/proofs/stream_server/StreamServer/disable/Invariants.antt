use Rattle.af_ends.proofs.stream_server.StreamServer.disable.Given as goal

abbrev pub ghosts-flags_in : goal.ghosts-flags_in
ghosts-flags_in a = record { name = a.blank.name; parts = a.blank.parts }
