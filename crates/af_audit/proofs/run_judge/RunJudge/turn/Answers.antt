use Rattle.std.proofs.Common.{◌&&◌, not, Bool, sym, ap, ◌∙◌}
use Rattle.af_audit.proofs.Common.{Turn, TurnJudged, number_found, turn_of}
use Rattle.af_audit.specs.declared.run_judge.RunJudge.{RunJudge}
use Rattle.af_audit.proofs.TurnTells.{report_so, turn_so}
use Rattle.af_audit.proofs.run_judge.RunJudge.turn.Goals as goal

pub returns-then-legal-clause-told : goal.returns-then-legal-clause-told
returns-then-legal-clause-told c =
    let j : RunJudge = c.args.self.now in
    let tracks = c.args.tracks.now in
    let e : Turn = turn_of c.args.turn.now in
    let report = c.in_ok-report.report in
    let told = c.in_ok-report.ensures in
    let turned = c.in_ok-legal.ensures in
    let judged : TurnJudged report e tracks c.turn.new.tracks j.normal c.turn.new.self = record { judged = turned.judged; same = turned.same; follows = turned.follows; ends = turned.ends; told = turned.told } in
    turn_so j c.note_turn.new.self tracks c.turn.new.tracks _ e report c.in_ok-legal.legal c.has_ended-had_ended.result _ c.turn.new.self c.states-states.result.now
    (report_so c.args.log.now.entries c.args.later.first c.args.later.count c.requires.inside j.fast c.states-states.result.now j.normal.states tracks c.number_found-number.result (number_found j.fast e.cycle) report c.states-states.ensures c.number_found-number.ensures told.before told.ahead told.told)
    turned.right c.has_ended-had_ended.ensures (ap (λ (b : Bool). b && not c.has_ended-had_ended.result) (sym c.if-legal.true)) judged c.states-states.ensures c.in_ok-note_turn.ensures.noted

pub returns-else-legal-clause-told : goal.returns-else-legal-clause-told
returns-else-legal-clause-told c =
    let j : RunJudge = c.args.self.now in
    let tracks = c.args.tracks.now in
    let e : Turn = turn_of c.args.turn.now in
    let report = c.in_ok-report.report in
    let told = c.in_ok-report.ensures in
    let turned = c.in_ok-legal.ensures in
    let judged : TurnJudged report e tracks c.turn.new.tracks j.normal c.turn.new.self = record { judged = turned.judged; same = turned.same; follows = turned.follows; ends = turned.ends; told = turned.told } in
    turn_so j c.note_turn.new.self tracks c.turn.new.tracks _ e report c.in_ok-legal.legal c.has_ended-had_ended.result _ c.turn.new.self c.states-states.result.now
    (report_so c.args.log.now.entries c.args.later.first c.args.later.count c.requires.inside j.fast c.states-states.result.now j.normal.states tracks c.number_found-number.result (number_found j.fast e.cycle) report c.states-states.ensures c.number_found-number.ensures told.before told.ahead told.told)
    turned.right c.has_ended-had_ended.ensures (c.if-legal.false ∙ ap (λ (b : Bool). b && not c.has_ended-had_ended.result) (sym c.if-legal.false)) judged c.states-states.ensures c.in_ok-note_turn.ensures.noted
