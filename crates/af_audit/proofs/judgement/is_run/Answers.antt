use Rattle.std.proofs.Common.{◌<◌, ◌≤◌, ◌+◌, ℕ, Option, IfSome, length, arith, subst}
use Rattle.af_audit.proofs.Common.{marks_of, new_run, run_from}
use Rattle.af_audit.specs.RunKept.{FindsUnclear}
use Rattle.af_audit.proofs.JournalJudged.{is_run, no_run}
use Rattle.af_audit.proofs.judgement.is_run.Goals as goal

pub returns-in-Some : goal.returns-in-Some
returns-in-Some c = λ s script specs files keeps.
    let rounds = c.args.journal.now.rounds in
    let found = c.in_ok-first_unclear.ensures.found s script specs files keeps in
    let place = subst (λ (o : Option (ℕ × ℕ)). IfSome o (λ at. (at.0 < length rounds) × (at.1 ≤ length c.args.tracks.now + 1))) c.in-Some.is c.in_ok-first_unclear.ensures.place in
    no_run c.args.cut s (marks_of rounds) (new_run s) rounds c.in-Some.field-0.0 c.in-Some.field-0.1 place.0
    (subst (FindsUnclear c.args.cut s (marks_of rounds) (new_run s) rounds c.first_unclear.new.run c.first_unclear.new.tracks) c.in-Some.is found)

pub returns-in-None : goal.returns-in-None
returns-in-None c = λ s script specs files keeps.
    let rounds = c.args.journal.now.rounds in
    let found = subst (FindsUnclear c.args.cut s (marks_of rounds) (new_run s) rounds c.first_unclear.new.run c.first_unclear.new.tracks) c.in-None.is (c.in_ok-first_unclear.ensures.found s script specs files keeps) in
    let some : 0 < length s.script.tracks = (let a = script.track_count.0 in omega (arith, a)) in
    is_run c.args.cut s (marks_of rounds) (new_run s) rounds c.may_end.result some found.0 (c.may_end.ensures s (marks_of rounds) (run_from s (new_run s) rounds) found.1)
