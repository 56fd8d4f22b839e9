use Rattle.std.proofs.Common.{false, ℕ, Some, None, sym, subst}
use Rattle.af_audit.proofs.Common.{marks_of, new_run}
use Rattle.af_audit.specs.RunKept.{FindsFault, FindsUnclear}
use Rattle.af_audit.proofs.FirstFault.{found_last}
use Rattle.af_audit.proofs.judgement.judge_rounds.Goals as goal

pub returns-in-None-clause-fault : goal.returns-in-None-clause-fault
returns-in-None-clause-fault c = λ s script specs files keeps.
    let rounds = c.args.journal.now.rounds in
    let run = c.first_unclear.new.run in
    let tracks = c.first_unclear.new.tracks in
    let clear = subst (FindsUnclear false s (marks_of rounds) (new_run s) rounds run tracks) c.in_default.is (c.in_ok-at.ensures.found s script specs files keeps) in
    found_last s (marks_of rounds) rounds run tracks None clear c.in-None.ensures.least

pub returns-in-Some-going_party-clause-fault : goal.returns-in-Some-going_party-clause-fault
returns-in-Some-going_party-clause-fault c = λ s script specs files keeps.
    let rounds = c.args.journal.now.rounds in
    let run = c.first_unclear.new.run in
    let tracks = c.first_unclear.new.tracks in
    let party = c.in-Some-going_party.party in
    let clear = subst (FindsUnclear false s (marks_of rounds) (new_run s) rounds run tracks) c.in_default.is (c.in_ok-at.ensures.found s script specs files keeps) in
    subst (λ (n : ℕ). FindsFault s (marks_of rounds) (new_run s) rounds (Some (n, party))) (sym c.rounds-rounds.ensures) (found_last s (marks_of rounds) rounds run tracks (Some party) clear c.in-Some-going_party.ensures.least)
