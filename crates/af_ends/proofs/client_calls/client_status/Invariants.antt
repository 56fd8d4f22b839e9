use Rattle.af_ends.proofs.client_calls.client_status.Given as goal

abbrev pub ghosts-status_in : goal.ghosts-status_in
ghosts-status_in a = record { name = a.blank.name; parts = a.blank.parts }
