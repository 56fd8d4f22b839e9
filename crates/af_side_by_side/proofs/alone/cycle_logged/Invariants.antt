use Rattle.af_side_by_side.proofs.alone.cycle_logged.Given as goal

abbrev pub ghosts-cycle_once : goal.ghosts-cycle_once
ghosts-cycle_once a = record { name = a.blank.name; parts = a.blank.parts }

abbrev pub ghosts-note_in : goal.ghosts-note_in
ghosts-note_in a = record { name = a.blank.name; parts = a.blank.parts }
