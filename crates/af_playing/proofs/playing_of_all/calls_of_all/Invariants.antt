use Rattle.std.proofs.Common.{◌≡◌, ◌≤◌, length, map, take}
use Rattle.af_playing.proofs.Common.{PartyState}
use Rattle.std.specs.Vec.{vec_capacity}
use Rattle.af_playing.proofs.playing_of_all.calls_of_all.Given as goal

abbrev pub invariant-loop-i : goal.invariant-loop-i
invariant-loop-i l = (map (λ c. c.items) l.calls.items ≡ map (λ (p : PartyState). p.calls.items) (take l.i l.clients)) × (length l.calls.items ≡ l.i) × (length l.clients ≤ vec_capacity l.calls)
