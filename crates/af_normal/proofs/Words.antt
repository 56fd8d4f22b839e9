-- Words that lemmas alone speak of.
use Rattle.std.specs.Prelude.{◌||◌}
use Rattle.af_life.specs.Kept.{NormalKept}
use Rattle.af_normal.specs.State.{NormalState, kept_of}

-- an edit counts as soon as it is made
abbrev pub kept_open : NormalState → NormalKept
kept_open x = record (kept_of x) { dirty = x.mutator.dirty || x.mutator.edited }
