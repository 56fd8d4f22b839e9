use Rattle.std.proofs.Common.{rules, ap, ◌∙◌}
use Rattle.af_latest.proofs.Seating.{opens, splits_allowed, sits_writer, sits_reader}
use Rattle.af_latest.proofs.seats.latest.Goals as goal

pub new-requires : goal.new-requires
new-requires g c = rw (c.push_reserved-3.ensures.items, c.push_reserved-2.ensures.items, c.push_reserved.ensures.items, c.in-Ok.ensures.items) (opens c.args.first)

pub split_seat-other-requires : goal.split_seat-other-requires
split_seat-other-requires g c = let t = c.in-Ok-new.ensures.ok in (search rules, search rules, splits_allowed _ _ _ (ap (λ m. m.0.reads) t.4))

pub load-requires : goal.load-requires
load-requires g c = let t = c.in-Ok-new.ensures.ok in let e = c.split_seat-other.ensures in (search rules, search rules, sits_writer _ _ _ _ (ap (λ m. m.0.writes) e.2 ∙ ap (λ m. m.0.writes) t.4) (ap (λ m. m.0.writing.out) e.2 ∙ ap (λ m. m.0.writing.out) t.4))

pub load-requires-2 : goal.load-requires-2
load-requires-2 g c = let t = c.in-Ok-new.ensures.ok in let e = c.split_seat-other.ensures in (search rules, search rules, sits_reader _ _ _ _ (ap (λ m. m.0.reads) e.4 ∙ ap (λ m. m.0.reads) t.4) (ap (λ m. m.0.reading.out) e.4 ∙ ap (λ m. m.0.reading.out) t.4))
