use Rattle.std.proofs.Common.{◌≡◌, length, take}
use Rattle.af_session.proofs.noting.copied_items.Given as goal

abbrev pub invariant-loop-i : goal.invariant-loop-i
invariant-loop-i g l = (l.copy.items ≡ take l.i l.items) × (l.copy.room ≡ length l.items)
