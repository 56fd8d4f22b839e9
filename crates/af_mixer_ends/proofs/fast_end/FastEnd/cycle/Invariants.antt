use Rattle.af_mixer_ends.proofs.fast_end.FastEnd.cycle.Given as goal

abbrev pub ghosts-cycle_in : goal.ghosts-cycle_in
ghosts-cycle_in a = record { name = a.blank.name; parts = a.blank.parts }
