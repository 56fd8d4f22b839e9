use Rattle.af_record.proofs.in_hand.InHand.read.Given as goal

abbrev pub ghosts-read_met : goal.ghosts-read_met
ghosts-read_met a = record { name = a.blank.name; parts = a.blank.parts }
