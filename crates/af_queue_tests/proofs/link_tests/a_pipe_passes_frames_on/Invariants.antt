use Rattle.af_queue_tests.proofs.link_tests.a_pipe_passes_frames_on.Given as goal

abbrev pub ghosts-passes_frames : goal.ghosts-passes_frames
ghosts-passes_frames g a = record { name = a.blank.name; parts = a.blank.parts }
