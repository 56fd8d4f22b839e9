use Rattle.std.proofs.Common.{◌∙◌, ◌<◌, ◌+◌, ℕ, List, Option, length, arith, refl, sym, subst}
use Rattle.af_audit.proofs.Common.{RoundSeen, fast_party, marks_of, new_run, no_round, run_from, slice_index_or}
use Rattle.af_audit.specs.RunKept.{KeepsRun, LeastBelow, run_before}
use Rattle.af_audit.specs.RunJudged.{IsReady}
use Rattle.af_audit.specs.Verdicts.{AllBefore, IsClear}
use Rattle.af_audit.proofs.FirstFault.{all_taken, clear_more, found_here, run_next}
use Rattle.af_audit.proofs.judgement.first_unclear.Goals as goal

pub loop-round-init : goal.loop-round-init
loop-round-init c = record { ready = c.requires.ready; count = refl; clear = λ s script specs files keeps. (tt, keeps) }

pub returns-in-Some-clause-found : goal.returns-in-Some-clause-found
returns-in-Some-clause-found c = λ s script specs files keeps.
    let rounds = c.args.journal.now.rounds in
    let marks = marks_of rounds in
    let n : ℕ = c.loop-round.round in
    let many = c.rounds-round-end.ensures in
    let test = c.loop-round-test.true in
    let lt : n < length rounds = omega (arith, many, test) in
    let before = c.loop-round.invariant.clear s script specs files keeps in
    let judged = c.in_ok-party.ensures.judged s script specs files before.1 in
    found_here c.args.cut s marks rounds n c.in-Some.party lt before.0 (subst (λ (o : Option ℕ). LeastBelow (IsClear c.args.cut s marks (run_before s rounds n) (slice_index_or rounds n no_round)) (fast_party s + 1) o) c.in-Some.is judged.least)

pub loop-round-preserved : goal.loop-round-preserved
loop-round-preserved c =
    let rounds = c.args.journal.now.rounds in
    let n : ℕ = c.loop-round.round in
    let many = c.rounds-round-end.ensures in
    let test = c.loop-round-test.true in
    let lt : n < length rounds = omega (arith, many, test) in
    record {
      ready = subst (λ (m : ℕ). IsReady c.round.new.self m) c.loop-round.invariant.count c.in_ok-party.ensures.ready;
      count = c.in_ok-party.ensures.count ∙ c.loop-round.invariant.count;
      clear = λ s script specs files keeps.
          let marks = marks_of rounds in
          let before = c.loop-round.invariant.clear s script specs files keeps in
          let judged = c.in_ok-party.ensures.judged s script specs files before.1 in (
            clear_more c.args.cut s marks rounds n lt before.0 (subst (λ (o : Option ℕ). LeastBelow (IsClear c.args.cut s marks (run_before s rounds n) (slice_index_or rounds n no_round)) (fast_party s + 1) o) c.in-None.is judged.least),
            subst (KeepsRun s marks c.round.new.self c.round.new.tracks) (sym (run_next s rounds n lt)) (judged.kept c.in-None.is),
          );
    }

pub returns-clause-found : goal.returns-clause-found
returns-clause-found c = λ s script specs files keeps.
    let rounds = c.args.journal.now.rounds in
    let marks = marks_of rounds in
    let many = c.rounds-round-end.ensures in
    let test = c.loop-round-test.false in
    let before = c.loop-round.invariant.clear s script specs files keeps in
    let all = all_taken rounds c.loop-round.round (omega (arith, many, test)) in (
      subst (AllBefore c.args.cut s marks (new_run s)) all before.0,
      subst (λ (rs : List RoundSeen). KeepsRun s marks c.loop-round.run c.loop-round.tracks (run_from s (new_run s) rs)) all before.1,
    )
