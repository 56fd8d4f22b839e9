use Rattle.af_journal_tests.proofs.static_tests.played_after.Given as goal

abbrev pub ghosts-both_play : goal.ghosts-both_play
ghosts-both_play a = record { name = a.blank.name; parts = a.blank.parts }
