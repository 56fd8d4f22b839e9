use Rattle.af_side_by_side.proofs.logging.Auditor.turn.Given as goal

abbrev pub ghosts-read_in : goal.ghosts-read_in
ghosts-read_in g a = record { name = a.blank.name; parts = a.blank.parts }
