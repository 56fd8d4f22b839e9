use Rattle.std.proofs.Common.{◌≡◌, ◌+◌, ◌*◌, map, take}
use Rattle.af_gain.specs.Sums.{mixed_of}
use Rattle.af_gain.proofs.finishing.finish_small.Given as goal

abbrev pub invariant-loop-eight : goal.invariant-loop-eight
invariant-loop-eight l = take (8 * l.eight) l.out ≡ map mixed_of (take (8 * l.eight) l.sums)

abbrev pub invariant-loop-two : goal.invariant-loop-two
invariant-loop-two l = take (8 * l.eight + 2 * l.two) l.out ≡ map mixed_of (take (8 * l.eight + 2 * l.two) l.sums)

abbrev pub invariant-loop-i : goal.invariant-loop-i
invariant-loop-i l = take l.i l.out ≡ map mixed_of (take l.i l.sums)
