use Rattle.af_journal_tests.proofs.static_tests.is_so.Given as goal

abbrev pub ghosts-five_calls : goal.ghosts-five_calls
ghosts-five_calls a = record { name = a.blank.name; parts = a.blank.parts }
