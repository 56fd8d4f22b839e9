use Rattle.std.proofs.Common.{◌≤◌, length, All, take}
use Rattle.af_judge.proofs.Common.{Part}
use Rattle.af_judge.proofs.buffer_mix.are_fit.Given as goal

abbrev pub invariant-loop-part : goal.invariant-loop-part
invariant-loop-part l = All (λ (part : Part). (length part.frames.now ≤ l.asked) × (part.scale ≤ 4096)) (take l.part-index l.parts)
