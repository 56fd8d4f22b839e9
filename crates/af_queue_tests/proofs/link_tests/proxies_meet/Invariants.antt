use Rattle.af_queue_tests.proofs.link_tests.proxies_meet.Given as goal

abbrev pub ghosts-meets : goal.ghosts-meets
ghosts-meets g a = record { name = a.blank.name; parts = a.blank.parts }
