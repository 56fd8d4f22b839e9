use Rattle.std.proofs.Common.{◌≡◌, map, take}
use Rattle.af_judge.proofs.Common.{take_of, take_seen}
use Rattle.af_base.specs.Part.{take_of as part_of}
use Rattle.af_judge.proofs.mixer_setup.MixerSetup.put.Given as goal

abbrev pub invariant-loop-take : goal.invariant-loop-take
invariant-loop-take l = map part_of l.parts.items ≡ map (λ t. take_of l.self (take_seen t)) (take l.take-index l.takes)
