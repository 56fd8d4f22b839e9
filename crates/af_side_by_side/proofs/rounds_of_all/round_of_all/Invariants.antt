use Rattle.af_side_by_side.proofs.rounds_of_all.round_of_all.Given as goal

abbrev pub ghosts-meet_in : goal.ghosts-meet_in
ghosts-meet_in g a = record { name = a.blank.name; parts = a.blank.parts }
