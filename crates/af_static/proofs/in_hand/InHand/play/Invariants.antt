use Rattle.af_static.proofs.in_hand.InHand.play.Given as goal

abbrev pub ghosts-play_met : goal.ghosts-play_met
ghosts-play_met a = record { name = a.blank.name; parts = a.blank.parts }
