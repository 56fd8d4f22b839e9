use Rattle.std.proofs.Common.{◌+◌}
use Rattle.af_gain.proofs.Common.{four, frame_at}
use Rattle.af_gain.proofs.Words.{lane_back}
use Rattle.af_gain.proofs.adding.lefts_four.Goals as goal

pub returns-clause-lanes : goal.returns-clause-lanes
returns-clause-lanes c =
    four
    (lane_back (frame_at c.args.frames.now c.args.at) c.word_of-first.result c.word_of-first.ensures.frame c.word_of-first.ensures.word)
    (lane_back (frame_at c.args.frames.now (c.args.at + 1)) c.word_of-second.result c.word_of-second.ensures.frame c.word_of-second.ensures.word)
    (lane_back (frame_at c.args.frames.now (c.args.at + 2)) c.word_of-third.result c.word_of-third.ensures.frame c.word_of-third.ensures.word)
    (lane_back (frame_at c.args.frames.now (c.args.at + 3)) c.word_of-fourth.result c.word_of-fourth.ensures.frame c.word_of-fourth.ensures.word)
