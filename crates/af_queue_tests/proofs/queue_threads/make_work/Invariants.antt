use Rattle.af_queue_tests.proofs.queue_threads.make_work.Given as goal

abbrev pub ghosts-push_by : goal.ghosts-push_by
ghosts-push_by g a = record { name = a.blank.name; parts = a.blank.parts }

abbrev pub ghosts-attach_by : goal.ghosts-attach_by
ghosts-attach_by g a = record { name = a.blank.name; parts = a.blank.parts }

abbrev pub ghosts-wait_by : goal.ghosts-wait_by
ghosts-wait_by g a = record { name = a.blank.name; parts = a.blank.parts }
