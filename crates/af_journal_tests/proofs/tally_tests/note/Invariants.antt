use Rattle.af_journal_tests.proofs.tally_tests.note.Given as goal

abbrev pub ghosts-note_in : goal.ghosts-note_in
ghosts-note_in a = record { name = a.blank.name; parts = a.blank.parts }
