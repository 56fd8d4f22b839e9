use Rattle.std.proofs.Common.{◌∙◌, ◌<◌, ℕ, List, length, map, take, arith, refl, sym, subst}
use Rattle.af_audit.proofs.Common.{Frame, TrackSpec, entries_of, frames_of, marks_of, round_at}
use Rattle.af_audit.specs.RoundTold.{RoundPlayed}
use Rattle.af_audit.specs.RunKept.{JudgesRound, least_found, run_before}
use Rattle.af_audit.proofs.PartiesEnded.{none_of}
use Rattle.af_audit.proofs.RoundTheorem.{round_judged}
use Rattle.af_audit.proofs.run_judge.RunJudge.round.Goals as goal

pub returns-clause-judged : goal.returns-clause-judged
returns-clause-judged c = λ s script specs files keeps.
    let journal = c.args.journal.now in
    let n : ℕ = c.args.round in
    let tracks = c.args.tracks.now in
    let f = c.in_ok-found.found in
    let all = entries_of journal.rounds in
    let played = subst (λ (x : List TrackSpec × List (List Frame)). RoundPlayed c.args.cut x.0 x.1 (frames_of all) (map (λ e. e.entry) all) (length (entries_of (take n journal.rounds))) (round_at journal n) c.args.self.now tracks f c.play.new.self c.play.new.tracks) (λ i. (sym specs i, sym files i)) c.in_ok-found.ensures.told in
    let some : 0 < length s.script.tracks = (let a = script.track_count.0 in omega (arith, a)) in
    subst (JudgesRound c.args.cut s (marks_of journal.rounds) (run_before s journal.rounds n) (round_at journal n) c.play.new.self c.play.new.tracks) (sym (c.least.ensures.least ∙ (λ i. least_found (none_of c.going_party-going.result c.is_none.result c.is_none.ensures i) (c.in_ok-found.ensures.count i) f)))
    (round_judged c.args.cut s journal (frames_of all) n c.args.self.now c.play.new.self tracks c.play.new.tracks f c.going_party-going.result script c.log_in-log.ensures.form refl c.requires.round c.requires.tracks keeps played some c.going_party-going.ensures.least)
