use Rattle.std.proofs.Common.{◌≡◌, ℕ, ◌+◌, ◌^◌, ◌<◌, length}
use Rattle.af_normal.specs.Mutating.{EditsTo}
use Rattle.af_normal.specs.Order.{IsOpen}
use Rattle.af_normal.proofs.mixer.NormalMixer.edit_all.Given as goal

abbrev pub invariant-loop-i : goal.invariant-loop-i
invariant-loop-i l = record {
  edits : EditsTo l.i l.fn.self l.self;
  may : (n : ℕ) × (n + 32 < 2 ^ 62 + l.i) × IsOpen l.links n l.self;
  long : length l.self.tracks ≡ length l.fn.self.tracks;
  edited : l.edited ≡ l.self.mutator.edited;
}
