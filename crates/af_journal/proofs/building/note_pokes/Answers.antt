use Rattle.std.proofs.Common.{◌≡◌, map, cond, false, None, is_some, ◌∙◌, ap, sym, arith}
use Rattle.af_journal.proofs.Common.{none_of}
use Rattle.af_journal.specs.declared.stage.Stage.{Stage}
use Rattle.af_journal.specs.declared.stage.Stage.TheVariants as stage
use Rattle.af_journal.specs.Readings.{first_refused, parts_of}
use Rattle.af_journal.proofs.Beginnings.{rest_noted}
use Rattle.af_journal.proofs.InOrder.{FollowsFrom, none_refused}
use Rattle.af_journal.proofs.building.note_pokes.Goals as goal

pub push-requires : goal.push-requires
push-requires c = let few = c.requires in record { few = omega (arith, few) }

pub returns : goal.returns
returns c = λ place.
    let tracks = c.args.tracks in
    let rest = c.args.rest.now in
    let at : Stage = cond c.args.full stage.Entries stage.Nothing in
    let none : c.first_refused.result ≡ None = none_of c.first_refused.result (sym c.is_some.ensures ∙ c.if-is_some.false) in
    let order : FollowsFrom tracks at rest = none_refused tracks at rest (ap (λ (s : Stage). first_refused tracks s 1 (parts_of rest)) (sym c.stage_behind-stage.ensures) ∙ sym c.first_refused.ensures ∙ none) in
    rest_noted tracks place rest c.args.full (map (λ c. c.items) c.in_ok-clients.clients.items) c.args.noted.now c.push.new.self order c.in_ok-clients.ensures c.in_ok-push.ensures.noted
