use Rattle.std.proofs.Common.{◌∙◌, ap, map}
use Rattle.af_judge.proofs.Common.{packed_word}
use Rattle.af_judge.proofs.TrackKept.{words_from}
use Rattle.af_judge.proofs.track_judge.frames_put.Goals as goal

pub returns : goal.returns
returns c = ap (map packed_word) c.frames_from.ensures ∙ words_from c.args.file.now c.args.released c.args.count
