use Rattle.std.proofs.Common.{sym, subst, List}
use Rattle.af_normal.proofs.Common.{CommandLook}
use Rattle.af_normal.specs.Commands.{LooksMade}
use Rattle.af_normal.proofs.OneMore.{begin_made}
use Rattle.af_normal.proofs.attend.obey.Goals as goal

pub returns-then-is_some-clause-looks : goal.returns-then-is_some-clause-looks
returns-then-is_some-clause-looks g c = subst (λ (looks : List CommandLook). LooksMade c.args.command.now looks c.args.command.now) (sym c.requires.room.0) (begin_made c.args.command.now)
