use Rattle.af_normal_tests.proofs.table_tests.Parts.join.Goals as goal

pub returns : goal.returns
returns c = record { order = c.in_ok-mixer.ensures.order c.args.links.now c.requires.new; others = c.requires.others }
