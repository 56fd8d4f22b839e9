use Rattle.std.proofs.Common.{◌≡◌, length, map, take}
use Rattle.af_session.proofs.Common.{All, IsFrame, take_seen}
use Rattle.af_session.proofs.noting.copied_takes.Given as goal

abbrev pub invariant-loop-i : goal.invariant-loop-i
invariant-loop-i l = (map take_seen l.copy.items ≡ map take_seen (take l.i l.takes)) × (length l.copy.items ≡ l.i) × (l.copy.room ≡ length l.takes) × All (λ t. All IsFrame t.frames.items) l.copy.items
