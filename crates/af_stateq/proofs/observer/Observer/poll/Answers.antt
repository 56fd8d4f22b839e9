use Rattle.std.proofs.Common.{ℕ, ◌<◌, ap, sym, ◌∙◌, subst, ◌≡◌, Bool, false, if◌then◌else◌, Option, Some, None, arith, List}
use Rattle.af_stateq.proofs.Common.{AreOf, FastState, FitAt, slots}
use Rattle.af_stateq.specs.Ends.{Polls, Looked, acknowledged, took}
use Rattle.af_stateq.specs.Observes.{Observes, InOrder, IsSettled}
use Rattle.af_stateq.proofs.Told.{told_new, told_look}
use Rattle.af_stateq.proofs.Settled.{holds_all, gives_back, fits_all, fits_back}
use Rattle.af_stateq.proofs.observer.Observer.poll.Goals as goal

pub acknowledge-requires-clause-items : goal.acknowledge-requires-clause-items
acknowledge-requires-clause-items g c =
    let x : FastState = c.in-Some.state in
    let l = subst (λ (y : Option FastState). Looked g.N.Fits.fits c.self.inside.end c.self.inside.moving.items y c.look-found.new.self c.look-found.new.items.items) (ap (λ (b : Bool). if b then c.look-found.new.current else None) c.if-not-found.false ∙ c.in-Some.is) c.look-found.ensures.seen in
    let o = c.self.inside.end in
    let R : List (Option g.row.P.Denot) = c.settle.new.moving.items in
    let r = subst (λ z. InOrder g.N.Fits.fits z) (sym c.self.view_is) c.requires.order in
    subst (λ (z : Polls g.row.P.Denot g.row.N-Key.Denot). AreOf z.state z.next R × FitAt g.N.Fits.fits z.key z.state R) (sym l.0) (
      gives_back x o.state c.self.inside.items.items c.look-found.new.items.items c.settle.new.items.items R r.held l.1 c.settle.ensures.each c.settle.ensures.lengths.1 r.state,
      fits_back x o.state c.self.inside.items.items c.look-found.new.items.items c.settle.new.items.items R r.held l.1 c.settle.ensures.each g.N.Fits.fits o.key l.2 r.fit,
    )

pub returns-clause-answer : goal.returns-clause-answer
returns-clause-answer g c =
    let x : FastState = c.in-Some.state in
    let l = subst (λ (y : Option FastState). Looked g.N.Fits.fits c.self.inside.end c.self.inside.moving.items y c.look-found.new.self c.look-found.new.items.items) (ap (λ (b : Bool). if b then c.look-found.new.current else None) c.if-not-found.false ∙ c.in-Some.is) c.look-found.ensures.seen in
    let v = c.self.view_is in
    let o = c.self.inside.end in
    let r = subst (λ z. InOrder g.N.Fits.fits z) (sym v) c.requires.order in
    let came : List (Option g.row.P.Denot) = c.look-found.new.items.items in
    let R : List (Option g.row.P.Denot) = c.settle.new.moving.items in
    let done = c.acknowledge.ensures.state ∙ ap (acknowledged R) l.0 ∙ ap (λ (z : Observes g.row.P.Denot g.row.N-Key.Denot). acknowledged R (took x came z.past)) v in (
      ap (λ (z : Polls g.row.P.Denot g.row.N-Key.Denot). z.number) (c.end-2.view_is ∙ done),
      (
        x,
        (
          came,
          R,
          (λ i. record { past = done i; current = Some x; previous = ((c.look-found.ensures.moved c.if-not-found.false).1 ∙ ap (λ (z : Observes g.row.P.Denot g.row.N-Key.Denot). z.current) v) i; items = c.settle.new.items.items }),
          subst (λ (its : List (Option g.row.P.Denot)). (i : ℕ) → i < slots → IsSettled x its came c.settle.new.items.items R i) (ap (λ (z : Observes g.row.P.Denot g.row.N-Key.Denot). z.items) v) c.settle.ensures.each,
          subst (λ (y : FastState). AreOf x y came) (ap (λ (z : Observes g.row.P.Denot g.row.N-Key.Denot). z.past.state) v) l.1,
          subst (λ (y : FastState). AreOf y x R) (ap (λ (z : Observes g.row.P.Denot g.row.N-Key.Denot). z.past.state) v) (gives_back x o.state c.self.inside.items.items came c.settle.new.items.items R r.held l.1 c.settle.ensures.each c.settle.ensures.lengths.1 r.state),
        ),
      ),
      (let a = c.acknowledge.ensures.steps in let b = c.look-found.ensures.steps in omega arith),
    )

pub returns-clause-order : goal.returns-clause-order
returns-clause-order g c =
    let x : FastState = c.in-Some.state in
    let l = subst (λ (y : Option FastState). Looked g.N.Fits.fits c.self.inside.end c.self.inside.moving.items y c.look-found.new.self c.look-found.new.items.items) (ap (λ (b : Bool). if b then c.look-found.new.current else None) c.if-not-found.false ∙ c.in-Some.is) c.look-found.ensures.seen in
    let o = c.self.inside.end in
    let items' : List (Option g.row.P.Denot) = c.settle.new.items.items in
    let R : List (Option g.row.P.Denot) = c.settle.new.moving.items in
    let r = subst (λ z. InOrder g.N.Fits.fits z) (sym c.self.view_is) c.requires.order in
    let past = sym (c.acknowledge.ensures.state ∙ ap (acknowledged R) l.0) in
    let previous = sym (c.look-found.ensures.moved c.if-not-found.false).1 in
    subst (λ (z : Polls g.row.P.Denot g.row.N-Key.Denot × Option FastState). InOrder g.N.Fits.fits record { past = z.0; current = Some x; previous = z.1; items = items' }) (λ i. (past i, previous i)) record {
      told = told_new o.events o.number o.state c.self.inside.current c.self.inside.previous r.told x c.look-found.new.items.items R;
      state = l.1.3;
      whole = c.settle.ensures.lengths.0;
      held = holds_all x o.state c.self.inside.items.items c.look-found.new.items.items items' R r.held l.1 c.settle.ensures.each;
      fit = fits_all x o.state c.self.inside.items.items c.look-found.new.items.items items' R r.held l.1 c.settle.ensures.each g.N.Fits.fits o.key l.2 r.fit;
    }

pub returns-then-end-eq0-clause-order : goal.returns-then-end-eq0-clause-order
returns-then-end-eq0-clause-order g c =
    let none : c.look-found.result ≡ false = c.if-not-found.true in
    let l = subst (λ (y : Option FastState). Looked g.N.Fits.fits c.self.inside.end c.self.inside.moving.items y c.look-found.new.self c.look-found.new.items.items) (ap (λ (b : Bool). if b then c.look-found.new.current else None) none) c.look-found.ensures.seen in
    let past = sym l.0 in
    let current = sym (c.look-found.ensures.same none).0 in
    let previous = sym (c.look-found.ensures.same none).1 in
    let o = c.self.inside.end in
    let r = subst (λ z. InOrder g.N.Fits.fits z) (sym c.self.view_is) c.requires.order in
    subst (λ (z : Polls g.row.P.Denot g.row.N-Key.Denot × Option FastState × Option FastState). InOrder g.N.Fits.fits record { past = z.0; current = z.1; previous = z.2; items = c.self.inside.items.items }) (λ i. (past i, current i, previous i))
    record { told = told_look o.events o.number o.state c.self.inside.current c.self.inside.previous r.told; state = r.state; whole = r.whole; held = r.held; fit = r.fit }

pub returns-else-end-eq0-clause-order : goal.returns-else-end-eq0-clause-order
returns-else-end-eq0-clause-order g c =
    let none : c.look-found.result ≡ false = c.if-not-found.true in
    let l = subst (λ (y : Option FastState). Looked g.N.Fits.fits c.self.inside.end c.self.inside.moving.items y c.look-found.new.self c.look-found.new.items.items) (ap (λ (b : Bool). if b then c.look-found.new.current else None) none) c.look-found.ensures.seen in
    let past = sym l.0 in
    let current = sym (c.look-found.ensures.same none).0 in
    let previous = sym (c.look-found.ensures.same none).1 in
    let o = c.self.inside.end in
    let r = subst (λ z. InOrder g.N.Fits.fits z) (sym c.self.view_is) c.requires.order in
    subst (λ (z : Polls g.row.P.Denot g.row.N-Key.Denot × Option FastState × Option FastState). InOrder g.N.Fits.fits record { past = z.0; current = z.1; previous = z.2; items = c.self.inside.items.items }) (λ i. (past i, current i, previous i))
    record { told = told_look o.events o.number o.state c.self.inside.current c.self.inside.previous r.told; state = r.state; whole = r.whole; held = r.held; fit = r.fit }
