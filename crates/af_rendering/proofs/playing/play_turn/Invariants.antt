use Rattle.af_rendering.proofs.playing.play_turn.Given as goal

abbrev pub ghosts-round_in : goal.ghosts-round_in
ghosts-round_in a = record { name = a.blank.name; parts = a.blank.parts }
