use Rattle.std.proofs.Common.{ℕ, ◌*◌, ◌∙◌, take, ap}
use Rattle.af_io.specs.Pcm.{frames_from}
use Rattle.af_io.proofs.Fronts.{front_read}
use Rattle.af_io.proofs.pcm.first_frames.Goals as goal

pub returns-in-Ok : goal.returns-in-Ok
returns-in-Ok c =
    c.in-Ok.ensures
    ∙ ap (λ (width : ℕ). frames_from c.args.mono (take (c.args.count * width) c.args.bytes.now)) c.width_of.ensures
    ∙ front_read c.args.mono c.args.bytes.now c.args.count c.requires
