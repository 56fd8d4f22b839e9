use Rattle.af_block_tests.proofs.block_tests.each_call_answers.Given as goal

abbrev pub ghosts-answers_in : goal.ghosts-answers_in
ghosts-answers_in g a = record { name = a.blank.name; parts = a.blank.parts }
