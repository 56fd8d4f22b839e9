use Rattle.af_queue_tests.proofs.queue_tests.the_ends_answer_as_the_tables_say.Given as goal

abbrev pub ghosts-first_wrong_of_new : goal.ghosts-first_wrong_of_new
ghosts-first_wrong_of_new g a = record { name = a.blank.name; parts = a.blank.parts }
