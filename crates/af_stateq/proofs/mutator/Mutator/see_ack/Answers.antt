use Rattle.std.proofs.Common.{◌≡◌, ap, sym, ◌∙◌, subst, List, Option}
use Rattle.af_stateq.specs.Shelved.{word}
use Rattle.af_stateq.specs.Ends.{SawAcked}
use Rattle.af_stateq.specs.Mutates.{Mutates}
use Rattle.af_stateq.specs.Answers.{SeesIt}
use Rattle.af_stateq.proofs.Acks.{older_keeps, older_empty, apart, hit_all}
use Rattle.af_stateq.proofs.mutator.Mutator.see_ack.Goals as goal

pub invariant_of-self : goal.invariant_of-self
invariant_of-self g c =
    let i = c.self.invariant in
    let is = c.word_of-expected.ensures ∙ ap (λ p. word p.number) c.end.view_is in
    let s = subst (λ (b : List (Option g.row.P.Denot)). SawAcked g.N.Fits.fits c.self.inside.end b c.see_ack-seen.result c.see_ack-seen.new.self c.see_ack-seen.new.items.items) i.0 c.see_ack-seen.ensures.seen in
    let miss = λ (e : c.see_ack-seen.result ≡ word c.self.inside.end.number). c.if-seen-expected.true (e ∙ sym is) in
    (older_empty g.N.Fits.fits _ i.1 _ _ _ s miss, older_keeps g.N.Fits.fits _ i.1 _ _ _ s miss)

pub join-requires-clause-apart : goal.join-requires-clause-apart
join-requires-clause-apart g c =
    let i = c.self.invariant in
    let is = c.word_of-expected.ensures ∙ ap (λ p. word p.number) c.end.view_is in
    let s = subst (λ (b : List (Option g.row.P.Denot)). SawAcked g.N.Fits.fits c.self.inside.end b c.see_ack-seen.result c.see_ack-seen.new.self c.see_ack-seen.new.items.items) i.0 c.see_ack-seen.ensures.seen in
    apart g.N.Fits.fits _ i.1 _ _ _ s (c.if-seen-expected.false ∙ is)

pub invariant_of-self-2 : goal.invariant_of-self-2
invariant_of-self-2 g c =
    let i = c.self.invariant in
    let is = c.word_of-expected.ensures ∙ ap (λ p. word p.number) c.end.view_is in
    let s = subst (λ (b : List (Option g.row.P.Denot)). SawAcked g.N.Fits.fits c.self.inside.end b c.see_ack-seen.result c.see_ack-seen.new.self c.see_ack-seen.new.items.items) i.0 c.see_ack-seen.ensures.seen in
    (c.join.ensures.empty, (hit_all g.N.Fits.fits _ i.1 _ _ _ s (c.if-seen-expected.false ∙ is) _ c.join.ensures.lengths c.join.ensures.joined).0)

pub returns-clause-seen : goal.returns-clause-seen
returns-clause-seen g c hit =
    let i = c.self.invariant in
    let is = c.word_of-expected.ensures ∙ ap (λ p. word p.number) c.end.view_is in
    let s = subst (λ (b : List (Option g.row.P.Denot)). SawAcked g.N.Fits.fits c.self.inside.end b c.see_ack-seen.result c.see_ack-seen.new.self c.see_ack-seen.new.items.items) i.0 c.see_ack-seen.ensures.seen in
    let t = hit_all g.N.Fits.fits _ i.1 _ _ _ s (c.if-seen-expected.false ∙ is) _ c.join.ensures.lengths c.join.ensures.joined in (
      subst (λ (m : Mutates g.row.P.Denot g.row.N-Key.Denot). SeesIt m record {
        past = c.see_ack-seen.new.self;
        draft = c.self.inside.draft;
        dirty = c.self.inside.dirty;
        editing = c.self.inside.editing;
        edited = c.self.inside.edited;
        pending = c.self.inside.pending.items;
        returned = c.join.new.returned.items;
        out = c.self.inside.out;
      }) c.self.view_is t.1,
      t.2,
    )

pub returns-then-seen-expected-clause-holds : goal.returns-then-seen-expected-clause-holds
returns-then-seen-expected-clause-holds g c =
    let i = c.self.invariant in
    let is = c.word_of-expected.ensures ∙ ap (λ p. word p.number) c.end.view_is in
    let s = subst (λ (b : List (Option g.row.P.Denot)). SawAcked g.N.Fits.fits c.self.inside.end b c.see_ack-seen.result c.see_ack-seen.new.self c.see_ack-seen.new.items.items) i.0 c.see_ack-seen.ensures.seen in
    let miss = λ (e : c.see_ack-seen.result ≡ word c.self.inside.end.number). c.if-seen-expected.true (e ∙ sym is) in
    older_keeps g.N.Fits.fits _ i.1 _ _ _ s miss

pub returns-clause-holds : goal.returns-clause-holds
returns-clause-holds g c =
    let i = c.self.invariant in
    let is = c.word_of-expected.ensures ∙ ap (λ p. word p.number) c.end.view_is in
    let s = subst (λ (b : List (Option g.row.P.Denot)). SawAcked g.N.Fits.fits c.self.inside.end b c.see_ack-seen.result c.see_ack-seen.new.self c.see_ack-seen.new.items.items) i.0 c.see_ack-seen.ensures.seen in
    (hit_all g.N.Fits.fits _ i.1 _ _ _ s (c.if-seen-expected.false ∙ is) _ c.join.ensures.lengths c.join.ensures.joined).0
