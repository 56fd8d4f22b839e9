use Rattle.std.proofs.Common.{◌≡◌, take}
use Rattle.af_rendering.proofs.Common.{released_by}
use Rattle.af_rendering.proofs.rendering.push_released.Given as goal

abbrev pub invariant-loop-i : goal.invariant-loop-i
invariant-loop-i l = l.released ≡ record l.initial.released { items = released_by (take l.i l.clients) }
