use Rattle.std.proofs.Common.{rules, ◌≡◌, ◌∙◌, sym, ap, Some, None, ◌+◌, ◌<◌, true, false, cond, length, arith, Option}
use Rattle.af_journal.specs.declared.stage.Stage.{Stage}
use Rattle.af_journal.specs.Readings.{cut, first_refused, parts_of, refused_or, stage_after, ends}
use Rattle.af_journal.proofs.Parts.{parts-cut, parts-none, cut_shorter, refused-step}
use Rattle.af_journal.proofs.reading.first_refused.Goals as goal

pub returns-in_default-stage_of : goal.returns-in_default-stage_of
returns-in_default-stage_of c =
    let part = c.in-Some.part.now in
    let after = c.in-Some.after.now in
    let front : cut c.lines.rest.now ≡ Some (part, after) = search rules in
    let none : stage_after c.args.tracks c.lines.stage part ≡ None = search rules in
    sym (ap (first_refused c.args.tracks c.lines.stage c.lines.number) (parts-cut c.lines.rest.now part after front)
    ∙ (refused-step c.args.tracks c.lines.stage c.lines.number part after
    ∙ ap (λ (o : Option Stage). refused_or c.lines.number o (λ e. first_refused c.args.tracks e (c.lines.number + 1) (parts_of after))) none))
    ∙ c.lines.invariant.same

pub lines-smaller : goal.lines-smaller
lines-smaller c =
    let front : cut c.lines.rest.now ≡ Some (c.in-Some.part.now, c.in-Some.after.now) = search rules in
    let shorter : length c.in-Some.after.now < length c.lines.rest.now = cut_shorter _ _ _ front in
    shorter

pub lines-preserved : goal.lines-preserved
lines-preserved c =
    let part = c.in-Some.part.now in
    let after = c.in-Some.after.now in
    let front : cut c.lines.rest.now ≡ Some (part, after) = search rules in
    let some : stage_after c.args.tracks c.lines.stage part ≡ Some c.in-Some-stage_of.next = search rules in
    let shorter : length after < length c.lines.rest.now = cut_shorter c.lines.rest.now part after front in
    record {
      same =
          sym (ap (first_refused c.args.tracks c.lines.stage c.lines.number) (parts-cut c.lines.rest.now part after front)
          ∙ (refused-step c.args.tracks c.lines.stage c.lines.number part after
          ∙ ap (λ (o : Option Stage). refused_or c.lines.number o (λ e. first_refused c.args.tracks e (c.lines.number + 1) (parts_of after))) some))
          ∙ c.lines.invariant.same;
      short = omega (arith, c.lines.invariant.short, shorter);
    }

pub returns-then-ends : goal.returns-then-ends
returns-then-ends c =
    let last : first_refused c.args.tracks c.lines.stage c.lines.number (parts_of c.lines.rest.now) ≡ cond (ends c.lines.stage c.lines.rest.now) None (Some c.lines.number) =
    ap (first_refused c.args.tracks c.lines.stage c.lines.number) (parts-none c.lines.rest.now (sym c.in_default.ensures)) in
    let is : ends c.lines.stage c.lines.rest.now ≡ true = sym c.ends.ensures ∙ c.if-ends.true in
    sym (last ∙ ap (λ b. cond b None (Some c.lines.number)) is) ∙ c.lines.invariant.same

pub returns-else-ends : goal.returns-else-ends
returns-else-ends c =
    let last : first_refused c.args.tracks c.lines.stage c.lines.number (parts_of c.lines.rest.now) ≡ cond (ends c.lines.stage c.lines.rest.now) None (Some c.lines.number) =
    ap (first_refused c.args.tracks c.lines.stage c.lines.number) (parts-none c.lines.rest.now (sym c.in_default.ensures)) in
    let is : ends c.lines.stage c.lines.rest.now ≡ false = sym c.ends.ensures ∙ c.if-ends.false in
    sym (last ∙ ap (λ b. cond b None (Some c.lines.number)) is) ∙ c.lines.invariant.same
