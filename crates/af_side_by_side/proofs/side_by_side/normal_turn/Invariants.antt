use Rattle.af_side_by_side.proofs.side_by_side.normal_turn.Given as goal

abbrev pub ghosts-normal_in : goal.ghosts-normal_in
ghosts-normal_in g a = record { name = a.blank.name; parts = a.blank.parts }
