use Rattle.af_fast_tests.proofs.meeting_tests.a_held_proxy_and_lent_ends_meet.Given as goal

abbrev pub ghosts-meets : goal.ghosts-meets
ghosts-meets g a = record { name = a.blank.name; parts = a.blank.parts }
