use Rattle.std.specs.Prelude.{◌≡◌, ◌++◌, map}
use Rattle.std.specs.Arc.{arc_value}
use Rattle.std.specs.Vec.Iter.{into_iter_items}
use Rattle.af_mixer_ends.specs.Opening.{end_of}
use Rattle.af_mixer_ends.proofs.opening.track_ends.Given as goal

abbrev pub invariant-loop-one : goal.invariant-loop-one
invariant-loop-one l = (l.ends.items ≡ map (end_of (arc_value l.fn.shared)) l.yielded) × (l.fn.tracks.items ≡ l.yielded ++ into_iter_items l.one-iterator)
