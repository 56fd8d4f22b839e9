use Rattle.af_ends.proofs.client_calls.client_write.Given as goal

abbrev pub ghosts-write_in : goal.ghosts-write_in
ghosts-write_in a = record { name = a.blank.name; parts = a.blank.parts }
