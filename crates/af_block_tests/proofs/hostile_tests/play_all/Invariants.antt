use Rattle.af_block_tests.proofs.hostile_tests.play_all.Given as goal

abbrev pub invariant-loop-number : goal.invariant-loop-number
invariant-loop-number g l = record { stream : g.S.Side.is_ready l.blocks.stream l.sides.stream; command : g.S.Side.is_ready l.blocks.command l.sides.command }
