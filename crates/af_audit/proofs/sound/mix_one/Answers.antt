use Rattle.std.proofs.Common.{length, List, ap, ◌∙◌}
use Rattle.af_audit.proofs.Common.{CycleEntry, Frame, mix, takes_of}
use Rattle.af_audit.proofs.sound.mix_one.Goals as goal

pub returns-then-is_fit-clause-mix : goal.returns-then-is_fit-clause-mix
returns-then-is_fit-clause-mix c =
    c.mix_heard.ensures
    ∙ ap (λ (frames : List Frame). mix (takes_of frames c.in-Some.entry.now) (length c.args.out.now)) c.frames.ensures
    ∙ ap (λ (entry : CycleEntry). mix (takes_of c.args.log.now.frames entry) (length c.args.out.now)) c.in-Some.ensures.1
