use Rattle.af_ends.proofs.client_calls.client_set_gains.Given as goal

abbrev pub ghosts-gains_in : goal.ghosts-gains_in
ghosts-gains_in a = record { name = a.blank.name; parts = a.blank.parts }
