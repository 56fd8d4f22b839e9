use Rattle.std.proofs.Common.{length, List, ap, ◌∙◌}
use Rattle.af_model.proofs.Common.{CycleEntry, Frame, Take, mix, takes_of}
use Rattle.af_model.proofs.mixing.mix_entry.Goals as goal

pub returns : goal.returns
returns c =
    c.mix_plainly.ensures
    ∙ ap (λ (takes : List Take). mix takes (length c.args.out.now)) c.parts_of.ensures
    ∙ ap (λ (frames : List Frame). mix (takes_of frames c.in-Some.entry.now) (length c.args.out.now)) c.frames.ensures
    ∙ ap (λ (entry : CycleEntry). mix (takes_of c.args.log.now.frames entry) (length c.args.out.now)) c.in-Some.ensures.1
