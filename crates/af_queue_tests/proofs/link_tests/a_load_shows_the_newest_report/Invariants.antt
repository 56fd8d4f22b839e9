use Rattle.af_queue_tests.proofs.link_tests.a_load_shows_the_newest_report.Given as goal

abbrev pub ghosts-loads_reports : goal.ghosts-loads_reports
ghosts-loads_reports g a = record { name = a.blank.name; parts = a.blank.parts }
