use Rattle.std.proofs.Common.{◌≡◌, false}
use Rattle.af_fast.specs.Mixer.{IsInOrder, IsLinked}
use Rattle.af_fast_tests.proofs.thread_tests.mix_in.Given as goal

abbrev pub invariant-loop : goal.invariant-loop
invariant-loop g l = record {
  linked : IsLinked l.links l.mixer;
  order : IsInOrder l.mixer;
  turn : (l.mixer.adopted ≡ false) × (l.mixer.frames ≡ 16);
}
