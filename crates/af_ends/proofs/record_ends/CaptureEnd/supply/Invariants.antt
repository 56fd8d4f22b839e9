use Rattle.af_ends.proofs.record_ends.CaptureEnd.supply.Given as goal

abbrev pub ghosts-supply_in : goal.ghosts-supply_in
ghosts-supply_in a = record { name = a.blank.name; parts = a.blank.parts }
