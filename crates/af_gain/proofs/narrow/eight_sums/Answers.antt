use Rattle.af_gain.proofs.narrow.eight_sums.Goals as goal

pub loop-i-init : goal.loop-i-init
loop-i-init c = c.no_sums-sums.ensures c.args.at
