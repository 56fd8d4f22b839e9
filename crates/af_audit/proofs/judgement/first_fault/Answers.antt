use Rattle.std.proofs.Common.{List, refl, sym, subst}
use Rattle.af_audit.proofs.Common.{TrackJudge, marks_of, new_run, session_of}
use Rattle.af_audit.specs.RunKept.{KeepsRun}
use Rattle.af_audit.proofs.NewRun.{new_kept}
use Rattle.af_audit.proofs.judgement.first_fault.Goals as goal

pub returns-clause-fault : goal.returns-clause-fault
returns-clause-fault c =
    let s = session_of c.args.script.now c.args.files.now in
    let rounds = c.args.journal.now.rounds in
    let kept = new_kept s rounds c.in_ok-run.run' c.in_ok-tracks.tracks.items c.tracks.ensures.script c.in_ok-run.ensures.ready.judged c.in_ok-run.ensures.new c.in_ok-tracks.ensures.count c.in_ok-tracks.ensures.new in
    c.judge_rounds.ensures.fault s c.tracks.ensures.script (sym c.tracks.ensures.value) refl (subst (λ (ts : List TrackJudge). KeepsRun s (marks_of rounds) c.in_ok-run.run' ts (new_run s)) (sym c.deref_mut.ensures.value) kept)
