use Rattle.af_ends.proofs.static_ends.SetterEnd.set.Given as goal

abbrev pub ghosts-set_in : goal.ghosts-set_in
ghosts-set_in a = record { name = a.blank.name; parts = a.blank.parts }
