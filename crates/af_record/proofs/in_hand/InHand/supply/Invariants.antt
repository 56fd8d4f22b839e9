use Rattle.af_record.proofs.in_hand.InHand.supply.Given as goal

abbrev pub ghosts-supply_met : goal.ghosts-supply_met
ghosts-supply_met a = record { name = a.blank.name; parts = a.blank.parts }
