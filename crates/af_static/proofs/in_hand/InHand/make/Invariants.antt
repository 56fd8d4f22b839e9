use Rattle.af_static.proofs.in_hand.InHand.make.Given as goal

abbrev pub ghosts-meet_first : goal.ghosts-meet_first
ghosts-meet_first a = record { name = a.blank.name; parts = a.blank.parts }
