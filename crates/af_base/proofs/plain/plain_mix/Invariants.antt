use Rattle.std.proofs.Common.{◌≡◌, map}
use Rattle.af_base.specs.Mix.{mix}
use Rattle.af_base.specs.Part.{take_of}
use Rattle.af_base.proofs.plain.plain_mix.Given as goal

abbrev pub invariant-loop-at : goal.invariant-loop-at
invariant-loop-at l = l.frames.items ≡ mix (map take_of l.parts) l.at
