use Rattle.std.proofs.Common.{◌≡◌, ◌++◌, map, take, drop}
use Rattle.af_life.specs.Edits.{welcomed}
use Rattle.af_life.proofs.plain.PlainMixer.welcome.Given as goal

abbrev pub invariant-loop-track : goal.invariant-loop-track
invariant-loop-track l = l.track-items ≡ map (welcomed l.last) (take l.track-index l.initial.track-items) ++ drop l.track-index l.initial.track-items
