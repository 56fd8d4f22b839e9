use Rattle.std.proofs.Common.{◌≤◌, All, length, take}
use Rattle.af_base.specs.declared.plain.Part.{Part}
use Rattle.af_script_tests.proofs.gain_tests.is_mixed.Given as goal

abbrev pub invariant-loop-part : goal.invariant-loop-part
invariant-loop-part l = All (λ (part : Part). (length part.frames.now ≤ length l.sums) × (part.scale ≤ 4096)) (take l.part-index l.parts)
