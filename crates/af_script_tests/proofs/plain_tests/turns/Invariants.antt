use Rattle.af_life.specs.Small.{IsSmall}
use Rattle.af_script_tests.proofs.plain_tests.turns.Given as goal

abbrev pub invariant-loop-i : goal.invariant-loop-i
invariant-loop-i l = IsSmall l.mixer.turns l.mixer.setup l.mixer.kept
