use Rattle.std.proofs.Common.{◌≡◌, ◌≤◌, ◌+◌, true, take}
use Rattle.af_judge.proofs.Common.{after_all, all_go_on}
use Rattle.af_judge.proofs.due_looks.Ready.are_due.Given as goal

abbrev pub invariant-loop-made : goal.invariant-loop-made
invariant-loop-made l = record {
  few : l.made ≤ 64;
  all : all_go_on l.self.given l.self.heard.flush_seen (take l.made l.looks) l.self.track ≡ true;
  is : l.track ≡ after_all l.self.given l.self.heard.flush_seen l.self.track (take l.made l.looks);
  settled : l.track.settled ≤ l.self.track.settled + l.made;
}
