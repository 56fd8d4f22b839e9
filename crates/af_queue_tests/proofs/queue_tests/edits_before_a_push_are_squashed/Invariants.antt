use Rattle.af_queue_tests.proofs.queue_tests.edits_before_a_push_are_squashed.Given as goal

abbrev pub ghosts-squashes : goal.ghosts-squashes
ghosts-squashes g a = record { name = a.blank.name; parts = a.blank.parts }
