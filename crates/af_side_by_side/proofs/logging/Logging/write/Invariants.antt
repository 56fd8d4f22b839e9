use Rattle.af_side_by_side.proofs.logging.Logging.write.Given as goal

abbrev pub ghosts-finish : goal.ghosts-finish
ghosts-finish a = record { name = a.blank.name; parts = a.blank.parts }
