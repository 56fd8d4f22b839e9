use Rattle.af_normal_tests.proofs.table_tests.make_lines.Goals as goal

pub loop-kind-preserved : goal.loop-kind-preserved
loop-kind-preserved c = c.in_ok-add.ensures c.loop-kind.kind-index c.loop-kind.invariant
