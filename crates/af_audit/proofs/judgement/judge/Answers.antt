use Rattle.std.proofs.Common.{List, arith, refl, sym, subst}
use Rattle.af_audit.proofs.Common.{TrackJudge, marks_of, new_run, session_of}
use Rattle.af_audit.specs.RunKept.{KeepsRun}
use Rattle.af_audit.proofs.Words.{MayBeJudged}
use Rattle.af_audit.proofs.JournalJudged.{cut_judged, legal_judged}
use Rattle.af_audit.proofs.NewRun.{new_kept}
use Rattle.af_audit.proofs.judgement.judge.Goals as goal

pub returns-clause-legal : goal.returns-clause-legal
returns-clause-legal c =
    let script = c.args.script.now in
    let rounds = c.args.journal.now.rounds in
    let s = session_of script c.args.files.now in
    let may : MayBeJudged script c.args.journal.now = record { tracks = c.requires.tracks; some = (let a = c.tracks-specs.ensures.script.track_count.0 in omega (arith, a)); form = c.log-log.ensures.form } in
    let kept = new_kept s rounds c.in_ok-run.run' c.in_ok-tracks.tracks.items c.tracks-specs.ensures.script c.in_ok-run.ensures.ready.judged c.in_ok-run.ensures.new c.in_ok-tracks.ensures.count c.in_ok-tracks.ensures.new in
    legal_judged c.args.cut script c.args.files.now c.args.journal.now c.in_ok-is.is' may
    (c.in_ok-is.ensures s c.tracks-specs.ensures.script (sym c.tracks-specs.ensures.value) refl (subst (λ (ts : List TrackJudge). KeepsRun s (marks_of rounds) c.in_ok-run.run' ts (new_run s)) (sym c.deref_mut.ensures.value) kept))

pub returns-clause-cut : goal.returns-clause-cut
returns-clause-cut c =
    let script = c.args.script.now in
    let rounds = c.args.journal.now.rounds in
    let s = session_of script c.args.files.now in
    let may : MayBeJudged script c.args.journal.now = record { tracks = c.requires.tracks; some = (let a = c.tracks-specs.ensures.script.track_count.0 in omega (arith, a)); form = c.log-log.ensures.form } in
    let kept = new_kept s rounds c.in_ok-run.run' c.in_ok-tracks.tracks.items c.tracks-specs.ensures.script c.in_ok-run.ensures.ready.judged c.in_ok-run.ensures.new c.in_ok-tracks.ensures.count c.in_ok-tracks.ensures.new in
    cut_judged c.args.cut script c.args.files.now c.args.journal.now c.in_ok-is.is' may
    (c.in_ok-is.ensures s c.tracks-specs.ensures.script (sym c.tracks-specs.ensures.value) refl (subst (λ (ts : List TrackJudge). KeepsRun s (marks_of rounds) c.in_ok-run.run' ts (new_run s)) (sym c.deref_mut.ensures.value) kept))
