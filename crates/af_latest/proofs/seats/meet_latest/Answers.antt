use Rattle.std.proofs.Common.{rules, ap, subst, List, ◌∙◌}
use Rattle.af_model.specs.declared.newest.ReaderEvent.{ReaderEvent}
use Rattle.af_model.specs.declared.newest.WriterEvent.{WriterEvent}
use Rattle.af_model.specs.NewestValue.{HasValueHistory}
use Rattle.af_latest.proofs.Steps.{meets_allowed}
use Rattle.af_latest.proofs.Seating.{splits_allowed, joins_allowed}
use Rattle.af_latest.proofs.seats.meet_latest.Goals as goal

pub split_seat-part-requires : goal.split_seat-part-requires
split_seat-part-requires g c = (search rules, search rules, splits_allowed _ _ _ (search rules))

pub join_seat-requires : goal.join_seat-requires
join_seat-requires g c = (search rules, search rules, search rules, search rules, joins_allowed _ _ _ _ _ (search rules))

pub load-requires : goal.load-requires
load-requires g c = (search rules, search rules, meets_allowed _ _ _ _ (search rules) (search rules))

pub split_seat-part-requires-2 : goal.split_seat-part-requires-2
split_seat-part-requires-2 g c = (search rules, search rules, splits_allowed _ _ _ (search rules))

pub join_seat-requires-2 : goal.join_seat-requires-2
join_seat-requires-2 g c = (search rules, search rules, search rules, search rules, joins_allowed _ _ _ _ _ (search rules))

pub returns-clause-before : goal.returns-clause-before
returns-clause-before g c first is =
    let part = c.split_seat-part.ensures.4 in
    let both = c.join_seat.ensures.2 in
    subst (λ (q : List (WriterEvent g.row.T.Denot) × List (ReaderEvent g.row.T.Denot)). HasValueHistory first q.0 q.1)
    (λ i. (
      (ap (λ m. m.0.writing.events) both ∙ ap (λ v. v.events) c.writer.view_is) i,
      (ap (λ m. m.0.reading.events) both ∙ ap (λ m. m.0.reading.events) part ∙ ap (λ v. v.events) c.reader.view_is) i,
    ))
    (c.load.ensures.2.0 first (ap (λ m. m.0.writing.first) both ∙ ap (λ v. v.first) c.writer.view_is ∙ is)).0
