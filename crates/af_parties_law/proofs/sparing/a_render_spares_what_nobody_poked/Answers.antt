use Rattle.af_parties_law.proofs.SparedRuns.{renders_spare}
use Rattle.af_parties_law.proofs.sparing.a_render_spares_what_nobody_poked.Goals as goal

pub returns : goal.returns
returns c = renders_spare
