use Rattle.std.proofs.Common.{rules, true, false, refl, ◌∷◌, ◌++◌, ap, ◌∙◌}
use Rattle.af_stateq.proofs.Common.{append-nil}
use Rattle.af_stateq.specs.Shelved.{shelves}
use Rattle.af_stateq.proofs.Seating.{splits_allowed, sits_mutator, sits_observer}
use Rattle.af_stateq.proofs.make.ends_at.Goals as goal

pub split_seat-other-requires : goal.split_seat-other-requires
split_seat-other-requires g c = let t = c.requires.seat in (search rules, search rules, splits_allowed _ _ _ _ (ap (λ m. m.0.observes) t.2))

pub load-requires : goal.load-requires
load-requires g c = let t = c.requires.seat in let e = c.split_seat-other.ensures in (search rules, search rules, sits_mutator _ _ _ _ _ (ap (λ m. m.0.mutates) e.2 ∙ ap (λ m. m.0.mutates) t.2) (ap (λ m. m.0.mutating.out) e.2 ∙ ap (λ m. m.0.mutating.out) t.2))

pub load-requires-2 : goal.load-requires-2
load-requires-2 g c = let t = c.requires.seat in let e = c.split_seat-other.ensures in (search rules, search rules, sits_observer _ _ _ _ _ (ap (λ m. m.0.observes) e.4 ∙ ap (λ m. m.0.observes) t.2) (ap (λ m. m.0.observing.out) e.4 ∙ ap (λ m. m.0.observing.out) t.2))

pub invariant_of-mutator : goal.invariant_of-mutator
invariant_of-mutator g c =
    let t = c.requires.seat.2 in
    let e = c.split_seat-other.ensures.2 in
    let l = c.load.ensures.2 in
    let w = ap (λ m. m.0) l.3 ∙ ap (λ m. record m.0 { mutating = record m.0.mutating { out = true } }) e ∙ ap (λ m. record m.0 { observes = false; mutating = record m.0.mutating { out = true } }) t in
    record {
      mutates = ap (λ v. v.mutates) w;
      alone = ap (λ v. v.observes) w;
      out = ap (λ v. v.mutating.out) w;
      number = ap (λ v. v.mutating.pushed) w;
      is_clear = ap (λ v. v.mutating.clear) w;
      begins = λ _. refl;
      holds = (l.0, l.1, l.2, ap (λ m. m.1) l.3 ∙ ap (λ m. (0, l.0) ∷ shelves l.1 ++ m.1) (e ∙ ap (λ m. (record m.0 { observes = false }, m.1)) t) ∙ ap (λ k. (0, l.0) ∷ k) (append-nil (shelves l.1)));
    }

pub invariant_of-observer : goal.invariant_of-observer
invariant_of-observer g c =
    let t = c.requires.seat.2 in
    let e = c.split_seat-other.ensures.4 in
    let l = c.load-2.ensures.2 in
    let w = ap (λ m. m.0) l.2 ∙ ap (λ m. record m.0 { observing = record m.0.observing { out = true } }) e ∙ ap (λ m. record m.0 { mutates = false; observing = record m.0.observing { out = true } }) t in
    record {
      observes = ap (λ v. v.observes) w;
      alone = ap (λ v. v.mutates) w;
      out = ap (λ v. v.observing.out) w;
      number = ap (λ v. v.observing.current) w;
      is_due = ap (λ v. v.observing.due) w;
      holds = (l.0, l.1, ap (λ m. m.1) l.2 ∙ ap (λ m. (3, l.0) ∷ (2, l.1) ∷ m.1) e);
    }
