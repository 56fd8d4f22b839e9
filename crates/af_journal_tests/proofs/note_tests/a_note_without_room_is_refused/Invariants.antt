use Rattle.af_journal_tests.proofs.note_tests.a_note_without_room_is_refused.Given as goal

abbrev pub ghosts-passes_notes : goal.ghosts-passes_notes
ghosts-passes_notes g a = record { name = a.blank.name; parts = a.blank.parts }
