use Rattle.af_mixer_ends.proofs.Opened.{ends}
use Rattle.af_mixer_ends.proofs.opening.open_mixer.Goals as goal

pub share_out-requires : goal.share_out-requires
share_out-requires c = ends c.args.spec.now c.in_ok-shared.shared c.in_ok-shared.engine c.in_ok-shared.ensures.fits c.in_ok-shared.ensures.new c.in_ok-shared.ensures.together
