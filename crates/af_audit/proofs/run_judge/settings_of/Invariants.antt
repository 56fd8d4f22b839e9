use Rattle.std.proofs.Common.{◌≡◌, map, take}
use Rattle.af_audit.proofs.Common.{spec_setting}
use Rattle.af_audit.proofs.run_judge.settings_of.Given as goal

abbrev pub invariant-loop-spec : goal.invariant-loop-spec
invariant-loop-spec l = l.settings.items ≡ map spec_setting (take l.spec-index l.specs)
