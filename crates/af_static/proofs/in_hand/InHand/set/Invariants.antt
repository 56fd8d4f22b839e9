use Rattle.af_static.proofs.in_hand.InHand.set.Given as goal

abbrev pub ghosts-set_met : goal.ghosts-set_met
ghosts-set_met a = record { name = a.blank.name; parts = a.blank.parts }
