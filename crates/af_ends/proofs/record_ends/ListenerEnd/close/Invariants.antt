use Rattle.af_ends.proofs.record_ends.ListenerEnd.close.Given as goal

abbrev pub ghosts-meet_in : goal.ghosts-meet_in
ghosts-meet_in a = record { name = a.blank.name; parts = a.blank.parts }
