use Rattle.af_ends.proofs.static_ends.PlayerEnd.play.Given as goal

abbrev pub ghosts-play_in : goal.ghosts-play_in
ghosts-play_in a = record { name = a.blank.name; parts = a.blank.parts }
