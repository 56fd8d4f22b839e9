use Rattle.std.proofs.Common.{◌≡◌, Some, ap, refl, rules, ◌∙◌}
use Rattle.af_side_by_side.proofs.Common.{AuditorState, LoggingState}
use Rattle.af_side_by_side.proofs.LogMeets.{met_log}
use Rattle.af_side_by_side.proofs.logging.Logging.meet.Goals as goal

pub returns : goal.returns
returns g c =
    let l : LoggingState = c.args.self.now in
    let r' = c.meet_notes.new.reader in
    let log : l.log ≡ Some c.in-Some.block = search rules in
    let scribe : l.scribe.end ≡ Some c.in-Some-end.writer = search rules in
    let auditor : l.auditor.end ≡ Some c.in-Some-end-2.reader = search rules in
    let kept : c.self.inside.auditor ≡ l.auditor = ap (λ (x : LoggingState). x.auditor) c.self.view_is in
    let done = c.meet_notes.ensures in
    record {
      met = met_log l _ c.in-Some.block c.in-Some-end.writer c.meet_notes.new.writer c.in-Some-end-2.reader r' log scribe auditor done.made.0 done.made.1
          (record { kept = done.kept; order = done.order; rounds = done.rounds }) refl refl (ap (λ (a : AuditorState). record a { end = Some r' }) (c.auditor.view_is ∙ kept));
    }
