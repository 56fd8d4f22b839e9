use Rattle.std.proofs.Common.{[], arith}
use Rattle.af_base.specs.Log.{slots}
use Rattle.af_tally.specs.Summaries.{looks_by}
use Rattle.af_tally.proofs.Tallying.{notes_none, notes_wider}
use Rattle.af_tally.proofs.tally.Tally.note_state.Goals as goal

pub returns-in_default : goal.returns-in_default
unfolding looks_by
returns-in_default c = rw c.in_default.is (notes_wider 0 slots [] c.args.self.now c.args.self.now (omega arith) (notes_none c.args.self.now))
