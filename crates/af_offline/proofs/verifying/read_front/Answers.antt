use Rattle.std.proofs.Common.{subst, sym}
use Rattle.af_offline.specs.Verified.{IsUnread}
use Rattle.af_offline.proofs.Verified.{unread_told}
use Rattle.af_offline.proofs.verifying.read_front.Goals as goal

pub returns-in-Err : goal.returns-in-Err
returns-in-Err c = subst (λ stop. IsUnread stop c.args.script.now c.args.text.now) (sym c.unread.ensures) (unread_told c.args.script.now c.args.text.now c.in-Err.fault c.in-Err.ensures.fault)
