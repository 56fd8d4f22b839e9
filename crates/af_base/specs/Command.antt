-- The numbers of the fast mixer's commands.
use Rattle.std.specs.Prelude.{ℕ}
use Rattle.af_base.specs.declared.state.Command.{Command}
use Rattle.af_base.specs.declared.state.Command.TheVariants.{Initial, HotIdle, ColdIdle, Idle, Exit, Mix, Write, MixWrite}

abbrev pub code_of : Command → ℕ
code_of Initial = 0
code_of HotIdle = 1
code_of ColdIdle = 2
code_of Idle = 3
code_of Exit = 4
code_of Mix = 8
code_of Write = 16
code_of MixWrite = 24
