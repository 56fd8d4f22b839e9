use Rattle.af_ends.proofs.client_calls.client_flush.Given as goal

abbrev pub ghosts-flush_in : goal.ghosts-flush_in
ghosts-flush_in a = record { name = a.blank.name; parts = a.blank.parts }
