use Rattle.af_ends.proofs.client_calls.client_clear_disabled.Given as goal

abbrev pub ghosts-clear_in : goal.ghosts-clear_in
ghosts-clear_in a = record { name = a.blank.name; parts = a.blank.parts }
