use Rattle.std.proofs.Common.{◌≡◌, ◌↔◌, IsTrue, take}
use Rattle.af_judge.specs.Blocks.{listed_in}
use Rattle.af_judge.specs.NormalLooks.{AllAnswer}
use Rattle.af_judge.specs.NormalTold.{looks_told}
use Rattle.af_judge.proofs.normal_tells.all_looked.Given as goal

abbrev pub invariant-loop-look : goal.invariant-loop-look
invariant-loop-look l = record {
  told : l.commands ≡ looks_told (take l.look-index l.looks) l.initial.commands;
  right : IsTrue l.right ↔ AllAnswer l.initial.commands.lawful (listed_in l.initial.commands) (take l.look-index l.looks);
}
