use Rattle.af_render_law.proofs.laws.a_render_is_told_by_its_journal.Goals as goal
use Rattle.af_render_law.proofs.RendersTold.{render_told}

pub returns : goal.returns
returns c = render_told
