-- When two lists of a server tell the same of it.
use Rattle.std.specs.Prelude.{◌≡◌, List, length}
use Rattle.af_base.specs.declared.event.ServerEvent.{ServerEvent}
use Rattle.af_model.specs.declared.shape.Shape.{Shape}
use Rattle.af_model.specs.ServerCalls.{ServerKept, server_kept}

-- what a list tells, but for the front last seen
abbrev pub bare : ServerKept → ServerKept
bare k = record k { front = 0 }

-- Two lists tell the same but for the front last seen, which nobody asks for after its look, and they are equally long
pub record TellAlike (k : Shape) (xs ys : List ServerEvent) : Type 0 where
  pub kept : bare (server_kept k xs) ≡ bare (server_kept k ys)
  pub long : length xs ≡ length ys
