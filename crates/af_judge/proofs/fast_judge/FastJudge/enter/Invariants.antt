-- the entries before this one are told
use Rattle.std.proofs.Common.{◌≡◌, ◌↔◌, drop, take}
use Rattle.af_judge.proofs.Common.{IsTrue}
use Rattle.af_judge.specs.EntriesTold.{AreEntriesRight, entries_leave, playing}
use Rattle.af_judge.proofs.fast_judge.FastJudge.enter.Given as goal

abbrev pub invariant-loop-at : goal.invariant-loop-at
invariant-loop-at l = record {
  told : playing l.self l.tracks ≡ entries_leave l.states l.log.frames (take l.at (drop l.entries.first l.log.entries)) (playing l.fn.self l.fn.tracks);
  right : IsTrue l.right ↔ AreEntriesRight l.states l.log.frames (take l.at (drop l.entries.first l.log.entries)) (playing l.fn.self l.fn.tracks);
}
