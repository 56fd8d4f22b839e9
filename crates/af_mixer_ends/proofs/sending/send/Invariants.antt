use Rattle.af_mixer_ends.proofs.sending.send.Given as goal

abbrev pub ghosts-send_in : goal.ghosts-send_in
ghosts-send_in a = record { name = a.blank.name; parts = a.blank.parts }
