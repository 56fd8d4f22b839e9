use Rattle.af_queue_tests.proofs.queue_threads.keep_watch.Given as goal

abbrev pub ghosts-poll_by : goal.ghosts-poll_by
ghosts-poll_by a = record { name = a.blank.name; parts = a.blank.parts }

abbrev pub ghosts-hold_by : goal.ghosts-hold_by
ghosts-hold_by a = record { name = a.blank.name; parts = a.blank.parts }
