use Rattle.af_block_tests.proofs.call_tests.both_proxies_answer_as_the_tables_say.Given as goal

abbrev pub ghosts-plays_in : goal.ghosts-plays_in
ghosts-plays_in g a = record { name = a.blank.name; parts = a.blank.parts }
