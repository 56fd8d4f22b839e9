use Rattle.af_fast.proofs.LentState.{none_now, current_copied}
use Rattle.af_fast.proofs.current.keep_current.Goals as goal

pub returns-then-not-kept : goal.returns-then-not-kept
returns-then-not-kept c = current_copied c.args.observer.now c.current.result c.copied.result (none_now c.args.observer.now c.requires.order) c.current.ensures c.copied.ensures
