use Rattle.std.proofs.Common.{◌∙◌, length, ap}
use Rattle.af_io.proofs.Fronts.{frames_count}
use Rattle.af_offline.proofs.Loads.{frames_bytes}
use Rattle.af_offline.proofs.load.frames_in.Goals as goal

pub returns-in-Ok-clause-few : goal.returns-in-Ok-clause-few
returns-in-Ok-clause-few c =
    frames_bytes c.args.mono c.args.bytes.now (length c.in-Ok.pcm) (ap length c.in-Ok.ensures.frames ∙ frames_count c.args.mono c.args.bytes.now)
