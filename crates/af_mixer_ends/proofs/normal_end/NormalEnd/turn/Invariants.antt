use Rattle.af_mixer_ends.proofs.normal_end.NormalEnd.turn.Given as goal

abbrev pub ghosts-turn_in : goal.ghosts-turn_in
ghosts-turn_in a = record { name = a.blank.name; parts = a.blank.parts }
