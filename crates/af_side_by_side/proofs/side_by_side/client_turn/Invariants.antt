use Rattle.af_side_by_side.proofs.side_by_side.client_turn.Given as goal

abbrev pub ghosts-client_in : goal.ghosts-client_in
ghosts-client_in g a = record { name = a.blank.name; parts = a.blank.parts }
