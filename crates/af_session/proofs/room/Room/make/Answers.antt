use Rattle.af_session.proofs.room.Room.make.Goals as goal

pub returns : goal.returns
returns c = record { buffer = c.in_ok-buffer.ensures; bytes = c.in_ok-bytes.ensures; tally = c.in_ok-tally.ensures.tally c.args.frames; released = c.in_ok-released.ensures }
