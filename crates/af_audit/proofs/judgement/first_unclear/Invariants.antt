use Rattle.std.proofs.Common.{◌≡◌, length, take}
use Rattle.af_audit.proofs.Common.{IsScript, Session, marks_of, new_run}
use Rattle.af_audit.specs.RunJudged.{IsReady}
use Rattle.af_audit.specs.RunKept.{KeepsRun, run_before}
use Rattle.af_audit.specs.Verdicts.{AllBefore}
use Rattle.af_audit.proofs.judgement.first_unclear.Given as goal

abbrev pub invariant-loop-round : goal.invariant-loop-round
invariant-loop-round l = record {
  ready : IsReady l.run (length l.initial.tracks);
  count : length l.tracks ≡ length l.initial.tracks;
  clear : (s : Session) → IsScript s.script → s.script.tracks ≡ l.specs → s.files ≡ l.files → (let marks = marks_of l.journal.rounds in
      KeepsRun s marks l.initial.run l.initial.tracks (new_run s) → AllBefore l.cut s marks (new_run s) (take l.round l.journal.rounds) × KeepsRun s marks l.run l.tracks (run_before s l.journal.rounds l.round));
}
