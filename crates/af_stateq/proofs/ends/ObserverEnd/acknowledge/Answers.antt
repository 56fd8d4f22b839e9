use Rattle.std.proofs.Common.{rules, ℕ, ◌+◌, Bool, false, [], ◌∷◌, ◌++◌, length, ap, sym, ◌∙◌, subst}
use Rattle.af_stateq.proofs.Common.{Ack, slots}
use Rattle.af_stateq.specs.Shelved.{cell, word, HoldsSeen}
use Rattle.af_stateq.proofs.Allowed.{acks_at}
use Rattle.af_stateq.proofs.Steps.{many}
use Rattle.af_stateq.proofs.Hands.{cells_behind, third_first, numbered, fourth_cell, are_moved, fit_moved}
use Rattle.af_stateq.proofs.ends.ObserverEnd.acknowledge.Goals as goal

pub exchange-requires : goal.exchange-requires
exchange-requires g c =
    let i = c.self.invariant in
    let n : ℕ = c.self.inside.number in
    let h = subst (λ (b : Bool). HoldsSeen b n c.self.inside.seat.me.1) (ap (λ v. v.due) c.self.view_is ∙ c.requires.due) i.holds in
    let t = cells_behind _ _ _ _ _ _ _ h.3 h.5 (ap (λ m. m.1) c.turn.ensures.2) (ap (λ m. m.1) c.turn-2.ensures.2) (ap (λ m. m.1) c.turn-3.ensures.2) in
    record { together = search rules; whole = c.requires.items.0.0; held = (h.3, _, many h.3 slots (ap length h.4), t) }

pub store-requires : goal.store-requires
store-requires g c =
    let i = c.self.invariant in
    let n : ℕ = c.self.inside.number in
    let h = subst (λ (b : Bool). HoldsSeen b n c.self.inside.seat.me.1) (ap (λ v. v.due) c.self.view_is ∙ c.requires.due) i.holds in
    let t = cells_behind _ _ _ _ _ _ _ h.3 h.5 (ap (λ m. m.1) c.turn.ensures.2) (ap (λ m. m.1) c.turn-2.ensures.2) (ap (λ m. m.1) c.turn-3.ensures.2) in
    let x = c.exchange.ensures.exchanged h.3 _ (many h.3 slots (ap length h.4)) t in
    let u = third_first _ _ _ _ _ _ x.0 x.2 (ap (λ m. m.1) c.turn-4.ensures.2) (ap (λ m. m.1) c.turn-5.ensures.2) in
    let seat = ap (λ m. m.0) c.turn-5.ensures.2 ∙ ap (λ m. m.0) c.turn-4.ensures.2 ∙ c.exchange.ensures.same.2 ∙ ap (λ m. m.0) c.turn-3.ensures.2 ∙ ap (λ m. m.0) c.turn-2.ensures.2 ∙ ap (λ m. m.0) c.turn.ensures.2 in
    let v = ap (λ m. m.observing) seat in
    let at = ap (λ o. o.current) v ∙ i.number in
    let view = c.self.view_is in (
      search rules,
      search rules,
      acks_at _ _ _ _ _ _ (cell (n + 3)) _ x.0 _ (ap (λ m. m.observes) seat ∙ i.observes) (ap (λ o. o.due) v ∙ i.is_due ∙ ap (λ v. v.due) view ∙ c.requires.due)
          (ap (λ o. o.out) v ∙ i.out)
          (are_moved c.args.self.now.state c.args.self.now.next c.turn-5.new.self.me.0.observing.state c.turn-5.new.self.me.0.observing.next _ _ (sym (ap (λ o. o.state) v ∙ ap (λ v. v.state) view)) (sym (ap (λ o. o.next) v ∙ ap (λ v. v.next) view)) x.1 c.requires.items.0)
          (fit_moved g.N.Fits.fits c.args.self.now.key c.turn-5.new.self.me.0.observing.key c.args.self.now.state c.turn-5.new.self.me.0.observing.state _ _ (sym (ap (λ o. o.key) v ∙ ap (λ v. v.key) view)) (sym (ap (λ o. o.state) v ∙ ap (λ v. v.state) view)) x.1 c.requires.items.1)
          (c.word_of.ensures ∙ ap (λ (k : ℕ). word (k + 1)) (sym at)) (ap (λ (k : ℕ). cell (k + 3)) (sym at)) u,
    )

pub invariant_of-self : goal.invariant_of-self
invariant_of-self g c =
    let i = c.self.invariant in
    let n : ℕ = c.self.inside.number in
    let h = subst (λ (b : Bool). HoldsSeen b n c.self.inside.seat.me.1) (ap (λ v. v.due) c.self.view_is ∙ c.requires.due) i.holds in
    let t = cells_behind _ _ _ _ _ _ _ h.3 h.5 (ap (λ m. m.1) c.turn.ensures.2) (ap (λ m. m.1) c.turn-2.ensures.2) (ap (λ m. m.1) c.turn-3.ensures.2) in
    let x = c.exchange.ensures.exchanged h.3 _ (many h.3 slots (ap length h.4)) t in
    let u = third_first _ _ _ _ _ _ x.0 x.2 (ap (λ m. m.1) c.turn-4.ensures.2) (ap (λ m. m.1) c.turn-5.ensures.2) in
    let seat = ap (λ m. m.0) c.turn-5.ensures.2 ∙ ap (λ m. m.0) c.turn-4.ensures.2 ∙ c.exchange.ensures.same.2 ∙ ap (λ m. m.0) c.turn-3.ensures.2 ∙ ap (λ m. m.0) c.turn-2.ensures.2 ∙ ap (λ m. m.0) c.turn.ensures.2 in
    let v = ap (λ m. m.observing) seat in
    let at = ap (λ o. o.current) v ∙ i.number in
    let s = c.store.ensures.2 _ x.0 _ (many x.0 slots (ap length x.1 ∙ c.requires.items.0.0)) (numbered _ _ _ _ _ (ap (λ (k : ℕ). cell (k + 3)) (sym at)) u) in
    let w = ap (λ m. m.0.observing) s in
    record {
      observes = ap (λ m. m.0.observes) s ∙ ap (λ m. m.observes) seat ∙ i.observes;
      alone = ap (λ m. m.0.mutates) s ∙ ap (λ m. m.mutates) seat ∙ i.alone;
      out = ap (λ o. o.out) w ∙ ap (λ o. o.out) v ∙ i.out;
      number = ap (λ o. o.current) w ∙ ap (λ (k : ℕ). k + 1) at;
      is_due = ap (λ o. o.due) w;
      holds = (h.0, h.1, ap (λ m. m.1) s ∙ ap (λ (k : ℕ). (cell (n + 1), h.0) ∷ (k, h.1) ∷ []) (fourth_cell n));
    }

pub returns-clause-state : goal.returns-clause-state
returns-clause-state g c =
    let i = c.self.invariant in
    let n : ℕ = c.self.inside.number in
    let h = subst (λ (b : Bool). HoldsSeen b n c.self.inside.seat.me.1) (ap (λ v. v.due) c.self.view_is ∙ c.requires.due) i.holds in
    let t = cells_behind _ _ _ _ _ _ _ h.3 h.5 (ap (λ m. m.1) c.turn.ensures.2) (ap (λ m. m.1) c.turn-2.ensures.2) (ap (λ m. m.1) c.turn-3.ensures.2) in
    let x = c.exchange.ensures.exchanged h.3 _ (many h.3 slots (ap length h.4)) t in
    let u = third_first _ _ _ _ _ _ x.0 x.2 (ap (λ m. m.1) c.turn-4.ensures.2) (ap (λ m. m.1) c.turn-5.ensures.2) in
    let seat = ap (λ m. m.0) c.turn-5.ensures.2 ∙ ap (λ m. m.0) c.turn-4.ensures.2 ∙ c.exchange.ensures.same.2 ∙ ap (λ m. m.0) c.turn-3.ensures.2 ∙ ap (λ m. m.0) c.turn-2.ensures.2 ∙ ap (λ m. m.0) c.turn.ensures.2 in
    let v = ap (λ m. m.observing) seat in
    let at = ap (λ o. o.current) v ∙ i.number in
    let s = c.store.ensures.2 _ x.0 _ (many x.0 slots (ap length x.1 ∙ c.requires.items.0.0)) (numbered _ _ _ _ _ (ap (λ (k : ℕ). cell (k + 3)) (sym at)) u) in
    let w = ap (λ m. m.0.observing) s in
    let view = c.self.view_is in
    λ j. record {
      queue = (c.store.ensures.0 ∙ c.turn-5.ensures.0 ∙ c.turn-4.ensures.0 ∙ c.exchange.ensures.same.0 ∙ c.turn-3.ensures.0 ∙ c.turn-2.ensures.0 ∙ c.turn.ensures.0 ∙ ap (λ v. v.queue) view) j;
      key = (ap (λ o. o.key) w ∙ ap (λ o. o.key) v ∙ ap (λ v. v.key) view) j;
      number = ap (λ v. v.number + 1) view j;
      state = (ap (λ o. o.state) w ∙ ap (λ o. o.next) v ∙ ap (λ v. v.next) view) j;
      due = false;
      next = (ap (λ o. o.next) w ∙ ap (λ o. o.next) v ∙ ap (λ v. v.next) view) j;
      events = (ap (λ o. o.events) w ∙ (λ k. (v k).events ++ Ack ((v k).current + 1) (x.1 k) ∷ []) ∙ (λ k. c.self.inside.seat.me.0.observing.events ++ Ack (i.number k + 1) c.args.items.now.items ∷ []) ∙ ap (λ v. v.events ++ Ack (v.number + 1) c.args.items.now.items ∷ []) view) j;
    }

pub returns-clause-items : goal.returns-clause-items
returns-clause-items g c =
    let i = c.self.invariant in
    let n : ℕ = c.self.inside.number in
    let h = subst (λ (b : Bool). HoldsSeen b n c.self.inside.seat.me.1) (ap (λ v. v.due) c.self.view_is ∙ c.requires.due) i.holds in
    let t = cells_behind _ _ _ _ _ _ _ h.3 h.5 (ap (λ m. m.1) c.turn.ensures.2) (ap (λ m. m.1) c.turn-2.ensures.2) (ap (λ m. m.1) c.turn-3.ensures.2) in
    let x = c.exchange.ensures.exchanged h.3 _ (many h.3 slots (ap length h.4)) t in
    let u = third_first _ _ _ _ _ _ x.0 x.2 (ap (λ m. m.1) c.turn-4.ensures.2) (ap (λ m. m.1) c.turn-5.ensures.2) in
    let seat = ap (λ m. m.0) c.turn-5.ensures.2 ∙ ap (λ m. m.0) c.turn-4.ensures.2 ∙ c.exchange.ensures.same.2 ∙ ap (λ m. m.0) c.turn-3.ensures.2 ∙ ap (λ m. m.0) c.turn-2.ensures.2 ∙ ap (λ m. m.0) c.turn.ensures.2 in
    let v = ap (λ m. m.observing) seat in
    let at = ap (λ o. o.current) v ∙ i.number in
    x.3 ∙ h.4
