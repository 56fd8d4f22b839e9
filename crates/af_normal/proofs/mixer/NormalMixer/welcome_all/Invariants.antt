use Rattle.std.proofs.Common.{◌≡◌, length}
use Rattle.af_normal.specs.Coming.{HaveSlots, WelcomesTo}
use Rattle.af_normal.proofs.mixer.NormalMixer.welcome_all.Given as goal

abbrev pub invariant-loop-i : goal.invariant-loop-i
invariant-loop-i l = record {
  comes : WelcomesTo l.i l.fn.self l.self;
  tracks : length l.self.tracks ≡ length l.fn.self.tracks;
  streams : length l.self.streams ≡ length l.fn.self.streams;
  slots : HaveSlots l.self.tracks;
}
