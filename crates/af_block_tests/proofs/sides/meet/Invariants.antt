use Rattle.af_block_tests.proofs.sides.meet.Given as goal

abbrev pub ghosts-learn : goal.ghosts-learn
ghosts-learn a = record { name = a.blank.name; parts = a.blank.parts }
