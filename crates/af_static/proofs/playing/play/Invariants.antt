use Rattle.std.proofs.Common.{◌-◌, length}
use Rattle.af_static.specs.Loops.{IsSound}
use Rattle.af_static.specs.Played.{IsPlayedTo}
use Rattle.af_static.proofs.playing.play.Given as goal

abbrev pub invariant-loop-at : goal.invariant-loop-at
invariant-loop-at l = record {
  sound : IsSound (length l.frames) l.head;
  played : IsPlayedTo l.at l.frames l.gains l.fn.head (length l.out) l.head l.out;
}

abbrev pub decreases-loop-at : goal.decreases-loop-at
decreases-loop-at l = length l.out - l.at
