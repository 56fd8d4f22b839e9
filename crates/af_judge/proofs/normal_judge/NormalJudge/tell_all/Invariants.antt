use Rattle.std.proofs.Common.{◌≡◌, ◌↔◌, IsTrue, length}
use Rattle.af_judge.proofs.Common.{learnt_of, turn_of}
use Rattle.af_judge.specs.NormalTold.{AllTold, LooksRight}
use Rattle.af_judge.proofs.normal_judge.NormalJudge.tell_all.Given as goal

abbrev pub invariant-loop-i : goal.invariant-loop-i
invariant-loop-i l = record {
  many : length l.tracks ≡ length l.initial.tracks;
  told : AllTold (learnt_of l.report l.own) l.self.plain.kept (turn_of l.entry) l.initial.tracks l.tracks l.i;
  right : IsTrue l.right ↔ LooksRight (turn_of l.entry) l.initial.tracks l.i;
}
