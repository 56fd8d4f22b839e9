use Rattle.std.proofs.Common.{◌≡◌, ℕ, ◌≤◌, length}
use Rattle.af_normal.specs.Mixing.{stream_at}
use Rattle.af_normal.specs.Turning.{HandsTo}
use Rattle.af_normal.proofs.mixer.NormalMixer.make_hands.Given as goal

abbrev pub invariant-loop-i : goal.invariant-loop-i
invariant-loop-i g l = record {
  made : HandsTo l.i l.fn.self l.self;
  tracks : length l.self.tracks ≡ length l.fn.self.tracks;
  streams : length l.self.streams ≡ length l.fn.self.streams;
  count : length l.self.hands ≡ l.i;
  later : (k : ℕ) → l.i ≤ k → stream_at l.self.streams k ≡ stream_at l.fn.self.streams k;
}
