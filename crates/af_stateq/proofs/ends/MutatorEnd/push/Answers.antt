use Rattle.std.proofs.Common.{rules, ℕ, ◌+◌, ◌%◌, Bool, false, [], ◌∷◌, ◌++◌, length, ap, sym, ◌∙◌, subst, refl, arith}
use Rattle.af_stateq.proofs.Common.{Push, slots}
use Rattle.af_stateq.specs.Shelved.{cell, word, HoldsNext}
use Rattle.af_stateq.proofs.Allowed.{pushes_at}
use Rattle.af_stateq.proofs.Steps.{many}
use Rattle.af_stateq.proofs.Hands.{cell_behind, headed, tail_alone, numbered, this_cell, next_cell, are_moved, fit_moved}
use Rattle.af_stateq.proofs.ends.MutatorEnd.push.Goals as goal

pub exchange-requires : goal.exchange-requires
exchange-requires g c =
    let n : ℕ = c.self.inside.number in
    let h = subst (λ (b : Bool). HoldsNext b n c.self.inside.seat.me.1) (ap (λ v. v.clear) c.self.view_is ∙ c.requires.clear) c.self.invariant.holds in
    record { together = search rules; whole = c.requires.items.0.0; held = (h.1, _, many h.1 slots (ap length h.2), cell_behind n _ _ h.0 h.1 h.3 (ap (λ m. m.1) c.turn.ensures.2)) }

pub slot_mut-cell-requires : goal.slot_mut-cell-requires
slot_mut-cell-requires g c =
    let i = c.self.invariant in
    let n : ℕ = c.self.inside.number in
    let view = c.self.view_is in
    let h = subst (λ (b : Bool). HoldsNext b n c.self.inside.seat.me.1) (ap (λ v. v.clear) view ∙ c.requires.clear) i.holds in
    let x = c.exchange.ensures.exchanged h.1 _ (many h.1 slots (ap length h.2)) (cell_behind n _ _ h.0 h.1 h.3 (ap (λ m. m.1) c.turn.ensures.2)) in
    (search rules, (h.0, headed _ _ _ x.2))

pub store-requires : goal.store-requires
store-requires g c =
    let i = c.self.invariant in
    let n : ℕ = c.self.inside.number in
    let view = c.self.view_is in
    let h = subst (λ (b : Bool). HoldsNext b n c.self.inside.seat.me.1) (ap (λ v. v.clear) view ∙ c.requires.clear) i.holds in
    let x = c.exchange.ensures.exchanged h.1 _ (many h.1 slots (ap length h.2)) (cell_behind n _ _ h.0 h.1 h.3 (ap (λ m. m.1) c.turn.ensures.2)) in
    let v = ap (λ m. m.mutating) (c.exchange.ensures.same.2 ∙ ap (λ m. m.0) c.turn.ensures.2) in
    let at = ap (λ m. m.pushed) v ∙ i.number in
    let seat = ap (λ m. m.0) c.turn.ensures.2 in (
      search rules,
      search rules,
      pushes_at _ _ _ _ _ _ (n % 4) _ x.0 [] (ap (λ m. m.mutates) (c.exchange.ensures.same.2 ∙ seat) ∙ i.mutates) (ap (λ m. m.clear) v ∙ i.is_clear ∙ ap (λ v. v.clear) view ∙ c.requires.clear)
          (ap (λ m. m.out) v ∙ i.out)
          (are_moved c.args.state.now c.args.self.now.last c.args.state.now c.exchange.new.seat.me.0.mutating.last _ _ refl (sym (ap (λ m. m.last) v ∙ ap (λ v. v.last) view)) x.1 c.requires.items.0)
          (fit_moved g.N.Fits.fits c.args.self.now.key c.exchange.new.seat.me.0.mutating.key c.args.state.now c.args.state.now _ _ (sym (ap (λ m. m.key) v ∙ ap (λ v. v.key) view)) refl x.1 c.requires.items.1)
          (c.word_of.ensures ∙ ap (λ (k : ℕ). word (k + 1)) (sym at)) (sym (this_cell n) ∙ ap (λ (k : ℕ). cell (k + 1)) (sym at)) (tail_alone _ _ _ _ x.2),
    )

pub invariant_of-self : goal.invariant_of-self
invariant_of-self g c =
    let i = c.self.invariant in
    let n : ℕ = c.self.inside.number in
    let view = c.self.view_is in
    let h = subst (λ (b : Bool). HoldsNext b n c.self.inside.seat.me.1) (ap (λ v. v.clear) view ∙ c.requires.clear) i.holds in
    let x = c.exchange.ensures.exchanged h.1 _ (many h.1 slots (ap length h.2)) (cell_behind n _ _ h.0 h.1 h.3 (ap (λ m. m.1) c.turn.ensures.2)) in
    let v = ap (λ m. m.mutating) (c.exchange.ensures.same.2 ∙ ap (λ m. m.0) c.turn.ensures.2) in
    let at = ap (λ m. m.pushed) v ∙ i.number in
    let s = c.store.ensures.2 _ x.0 [] (many x.0 slots (ap length x.1 ∙ c.requires.items.0.0)) (numbered _ _ _ _ _ (sym (this_cell n) ∙ ap (λ (k : ℕ). cell (k + 1)) (sym at)) (tail_alone _ _ _ _ x.2)) in
    let w = ap (λ m. m.0.mutating) s.1 in
    let seat = c.exchange.ensures.same.2 ∙ ap (λ m. m.0) c.turn.ensures.2 in
    record {
      mutates = ap (λ m. m.0.mutates) s.1 ∙ ap (λ m. m.mutates) seat ∙ i.mutates;
      alone = ap (λ m. m.0.observes) s.1 ∙ ap (λ m. m.observes) seat ∙ i.alone;
      out = ap (λ m. m.out) w ∙ ap (λ m. m.out) v ∙ i.out;
      number = ap (λ m. m.pushed) w ∙ ap (λ (k : ℕ). k + 1) at;
      is_clear = ap (λ m. m.clear) w;
      begins = λ e. absurd (omega arith);
      holds = (s.0, ap (λ m. m.1) s.1 ∙ ap (λ (k : ℕ). (cell (k + 2), s.0) ∷ []) at ∙ ap (λ (k : ℕ). (k, s.0) ∷ []) (next_cell n));
    }

pub returns-clause-state : goal.returns-clause-state
returns-clause-state g c =
    let i = c.self.invariant in
    let n : ℕ = c.self.inside.number in
    let view = c.self.view_is in
    let h = subst (λ (b : Bool). HoldsNext b n c.self.inside.seat.me.1) (ap (λ v. v.clear) view ∙ c.requires.clear) i.holds in
    let x = c.exchange.ensures.exchanged h.1 _ (many h.1 slots (ap length h.2)) (cell_behind n _ _ h.0 h.1 h.3 (ap (λ m. m.1) c.turn.ensures.2)) in
    let v = ap (λ m. m.mutating) (c.exchange.ensures.same.2 ∙ ap (λ m. m.0) c.turn.ensures.2) in
    let at = ap (λ m. m.pushed) v ∙ i.number in
    let s = c.store.ensures.2 _ x.0 [] (many x.0 slots (ap length x.1 ∙ c.requires.items.0.0)) (numbered _ _ _ _ _ (sym (this_cell n) ∙ ap (λ (k : ℕ). cell (k + 1)) (sym at)) (tail_alone _ _ _ _ x.2)) in
    let w = ap (λ m. m.0.mutating) s.1 in
    λ j. record {
      queue = (c.store.ensures.0 ∙ c.exchange.ensures.same.0 ∙ c.turn.ensures.0 ∙ ap (λ v. v.queue) view) j;
      key = (ap (λ m. m.key) w ∙ ap (λ m. m.key) v ∙ ap (λ v. v.key) view) j;
      first = (ap (λ m. m.first) w ∙ ap (λ m. m.first) v ∙ ap (λ v. v.first) view) j;
      number = ap (λ v. v.number + 1) view j;
      last = ap (λ m. m.last) w j;
      before = (ap (λ m. m.before) w ∙ ap (λ m. m.last) v ∙ ap (λ v. v.last) view) j;
      clear = false;
      events = (ap (λ m. m.events) w ∙ (λ k. (v k).events ++ Push ((v k).pushed + 1) c.args.state.now (x.1 k) ∷ []) ∙ (λ k. c.self.inside.seat.me.0.mutating.events ++ Push (i.number k + 1) c.args.state.now c.args.items.now.items ∷ []) ∙ ap (λ v. v.events ++ Push (v.number + 1) c.args.state.now c.args.items.now.items ∷ []) view) j;
    }

pub returns-clause-items : goal.returns-clause-items
returns-clause-items g c =
    let i = c.self.invariant in
    let n : ℕ = c.self.inside.number in
    let view = c.self.view_is in
    let h = subst (λ (b : Bool). HoldsNext b n c.self.inside.seat.me.1) (ap (λ v. v.clear) view ∙ c.requires.clear) i.holds in
    let x = c.exchange.ensures.exchanged h.1 _ (many h.1 slots (ap length h.2)) (cell_behind n _ _ h.0 h.1 h.3 (ap (λ m. m.1) c.turn.ensures.2)) in
    x.3 ∙ h.2
